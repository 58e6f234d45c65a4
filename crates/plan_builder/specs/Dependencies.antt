-- The dependencies of drafts: AT, UNTIL, DEADLINE, FOLLOWS, NEEDS, PROMPT and OPENS in this order, those of one kind as
-- they are written.
use Rattle.std.specs.Prelude.{ℕ, ◌+◌, Bool, nat_lt, min, List, [], ◌∷◌, ◌++◌, map, flat_map, slice_get, unwrap_or, option_map, option_and_then}
use Rattle.std.specs.Prelude.{Option, Some, None, if◌then◌else◌}
use Rattle.std.specs.List.{filter_map}
use Rattle.std.specs.Option.{option_or, option_map_or}
use Rattle.base_types.specs.declared.Dep.TheVariants as dep
use Rattle.base_types.specs.declared.DraftDep.{DraftDep}
use Rattle.base_types.specs.declared.DraftDep.TheVariants as draft
use Rattle.base_types.specs.declared.PromptRef.TheVariants as ref
use Rattle.composer_parser.specs.declared.Lined.{Lined}
use Rattle.composer_parser.specs.declared.Defs.{Defs}
use Rattle.composer_parser.specs.declared.Clause.{Clause}
use Rattle.composer_parser.specs.declared.Clause.TheVariants.{At, Until, Deadline, Priority, Limit, CarryForward}
use Rattle.composer_parser.specs.declared.Clause.TheVariants.{Follows, Needs, Prompt, Opens}
use Rattle.composer_parser.specs.declared.Need.{Need}
use Rattle.composer_parser.specs.declared.Pred.{Pred}
use Rattle.composer_parser.specs.declared.PromptItem.{PromptItem}
use Rattle.composer_parser.specs.declared.PromptItem.TheVariants as ask
use Rattle.composer_parser.specs.declared.EntryDef.{EntryDef}
use Rattle.composer_parser.specs.declared.ScheduleDef.{ScheduleDef}
use Rattle.definition_names.specs.Names.{resource_at, prompt_at}
use Rattle.definition_names.specs.Stations.{ws_of_stream}
use Rattle.definition_names.specs.Targets.{target_of}
use Rattle.definition_names.specs.declared.Target.{Target}
use Rattle.definition_names.specs.declared.Target.TheVariants.{Stream, Job}
use Rattle.workload_defs.specs.Stations.{number_of}
use Rattle.plan_builder.specs.Times.{moment_or_first}
use Rattle.plan_builder.specs.declared.times.PlanDay.{PlanDay}

-- the number of a workstation; the master where there is none, which does not come in checked definitions
abbrev pub number_or_master : Defs → Option (List ℕ) → ℕ
number_or_master d ws = unwrap_or (option_and_then (number_of d) ws) 0

-- times
abbrev pub at_of : PlanDay → Clause → List DraftDep
at_of plan (At minute days) = draft.Plain (dep.At (moment_or_first plan minute days)) ∷ []
at_of plan (Until minute days u) = []
at_of plan (Deadline minute days) = []
at_of plan (Priority n) = []
at_of plan (Limit n) = []
at_of plan CarryForward = []
at_of plan (Follows ps) = []
at_of plan (Needs ns) = []
at_of plan (Prompt ps) = []
at_of plan (Opens paths) = []

abbrev pub until_of : PlanDay → Clause → List DraftDep
until_of plan (Until minute days then_) = draft.Plain (dep.Until (moment_or_first plan minute days) then_) ∷ []
until_of plan (At minute days) = []
until_of plan (Deadline minute days) = []
until_of plan (Priority n) = []
until_of plan (Limit n) = []
until_of plan CarryForward = []
until_of plan (Follows ps) = []
until_of plan (Needs ns) = []
until_of plan (Prompt ps) = []
until_of plan (Opens paths) = []

abbrev pub deadline_of : PlanDay → Clause → List DraftDep
deadline_of plan (Deadline minute days) = draft.Plain (dep.Deadline (moment_or_first plan minute days)) ∷ []
deadline_of plan (At minute days) = []
deadline_of plan (Until minute days u) = []
deadline_of plan (Priority n) = []
deadline_of plan (Limit n) = []
deadline_of plan CarryForward = []
deadline_of plan (Follows ps) = []
deadline_of plan (Needs ns) = []
deadline_of plan (Prompt ps) = []
deadline_of plan (Opens paths) = []

-- a FOLLOWS by the workstation and name of its stream, and the name of its job
abbrev pub follows_stream : Defs → ScheduleDef → DraftDep
follows_stream d s = draft.Follows (number_or_master d (ws_of_stream d s)) s.name None

abbrev pub follows_job : Defs → ScheduleDef → EntryDef → DraftDep
follows_job d s e = draft.Follows (number_or_master d (ws_of_stream d s)) s.name (Some e.name)

abbrev pub follows_at : Defs → Target → Option DraftDep
follows_at d (Stream n) = option_map (λ (s : Lined ScheduleDef). follows_stream d s.item) (slice_get d.schedules n)
follows_at d (Job n i) =
    option_and_then
    (λ (s : Lined ScheduleDef). option_map (λ (e : Lined EntryDef). follows_job d s.item e.item) (slice_get s.item.entries i))
    (slice_get d.schedules n)

abbrev pub follows_of : Defs → ℕ → Bool → Pred → Option DraftDep
follows_of d n inside p = option_and_then (follows_at d) (target_of d n inside p)

abbrev pub preds_of : Clause → List Pred
preds_of (Follows ps) = ps
preds_of (At minute days) = []
preds_of (Until minute days u) = []
preds_of (Deadline minute days) = []
preds_of (Priority m) = []
preds_of (Limit m) = []
preds_of CarryForward = []
preds_of (Needs ns) = []
preds_of (Prompt ps) = []
preds_of (Opens paths) = []

abbrev pub followed_in : Defs → ℕ → Bool → Clause → List DraftDep
followed_in d n inside c = filter_map (follows_of d n inside) (preds_of c)

-- the number, from 1 to 65535, of what stands at a place; 0 where there is none, which does not come in checked ones
abbrev pub number_from_one : Option ℕ → ℕ
number_from_one place = option_map_or (λ p. if nat_lt p 65535 then p + 1 else 0) place 0

-- the resource of the workstation that is written, or of the object's
abbrev pub resource_of : Defs → Option (List ℕ) → Need → Option ℕ
resource_of d own n = option_and_then (λ ws. resource_at d ws n.name) (option_or n.ws own)

-- 1 unit where none are given, and up to 1024
abbrev pub need_of : Defs → Option (List ℕ) → Need → DraftDep
need_of d own n = draft.Plain (dep.Needs (number_from_one (resource_of d own n)) (min (unwrap_or n.units 1) 1024))

abbrev pub needs_of : Clause → List Need
needs_of (Needs ns) = ns
needs_of (At minute days) = []
needs_of (Until minute days u) = []
needs_of (Deadline minute days) = []
needs_of (Priority m) = []
needs_of (Limit m) = []
needs_of CarryForward = []
needs_of (Follows ps) = []
needs_of (Prompt ps) = []
needs_of (Opens paths) = []

abbrev pub needed_in : Defs → Option (List ℕ) → Clause → List DraftDep
needed_in d own c = map (need_of d own) (needs_of c)

-- a prompt by its number, or a text of its own
abbrev pub prompt_of : Defs → PromptItem → DraftDep
prompt_of d (ask.Name name) = draft.Plain (dep.Prompt (ref.Global (number_from_one (prompt_at d name))))
prompt_of d (ask.Own text) = draft.Plain (dep.Prompt (ref.Own text))

abbrev pub prompts_of : Clause → List PromptItem
prompts_of (Prompt ps) = ps
prompts_of (At minute days) = []
prompts_of (Until minute days u) = []
prompts_of (Deadline minute days) = []
prompts_of (Priority m) = []
prompts_of (Limit m) = []
prompts_of CarryForward = []
prompts_of (Follows ps) = []
prompts_of (Needs ns) = []
prompts_of (Opens paths) = []

abbrev pub asked_in : Defs → Clause → List DraftDep
asked_in d c = map (prompt_of d) (prompts_of c)

abbrev pub file_of : List ℕ → DraftDep
file_of path = draft.Plain (dep.Outside path)

abbrev pub paths_of : Clause → List (List ℕ)
paths_of (Opens paths) = paths
paths_of (At minute days) = []
paths_of (Until minute days u) = []
paths_of (Deadline minute days) = []
paths_of (Priority m) = []
paths_of (Limit m) = []
paths_of CarryForward = []
paths_of (Follows ps) = []
paths_of (Needs ns) = []
paths_of (Prompt ps) = []

abbrev pub opened_in : Clause → List DraftDep
opened_in c = map file_of (paths_of c)

-- the same of a clause with its line
abbrev pub at_in : PlanDay → Lined Clause → List DraftDep
at_in plan c = at_of plan c.item

abbrev pub until_in : PlanDay → Lined Clause → List DraftDep
until_in plan c = until_of plan c.item

abbrev pub deadline_in : PlanDay → Lined Clause → List DraftDep
deadline_in plan c = deadline_of plan c.item

abbrev pub follows_in : Defs → ℕ → Bool → Lined Clause → List DraftDep
follows_in d n inside c = followed_in d n inside c.item

abbrev pub needs_in : Defs → Option (List ℕ) → Lined Clause → List DraftDep
needs_in d own c = needed_in d own c.item

abbrev pub prompts_in : Defs → Lined Clause → List DraftDep
prompts_in d c = asked_in d c.item

abbrev pub files_in : Lined Clause → List DraftDep
files_in c = opened_in c.item

-- all dependencies of the stream at a place, or of one of its entries, which is on this workstation
unfoldable pub dependencies_of : Defs → PlanDay → ℕ → Bool → Option (List ℕ) → List (Lined Clause) → List DraftDep
dependencies_of d plan n inside own cs =
    flat_map (at_in plan) cs
    ++ flat_map (until_in plan) cs
    ++ flat_map (deadline_in plan) cs
    ++ flat_map (follows_in d n inside) cs
    ++ flat_map (needs_in d own) cs
    ++ flat_map (prompts_in d) cs
    ++ flat_map files_in cs
