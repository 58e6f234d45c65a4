-- Names that stand for nothing.
use Rattle.std.specs.Prelude.{ℕ, Bool, true, false, ◌&&◌, ◌||◌, not, List, is_none, Option, codes}
use Rattle.std.specs.List.{list_any}
use Rattle.std.specs.Option.{option_or, option_map_or}
use Rattle.std.specs.Str.{bytes_eq}
use Rattle.composer_parser.specs.declared.Defs.{Defs}
use Rattle.composer_parser.specs.declared.Clause.{Clause}
use Rattle.composer_parser.specs.declared.Clause.TheVariants.{At, Until, Deadline, Priority, Limit, CarryForward}
use Rattle.composer_parser.specs.declared.Clause.TheVariants.{Follows, Needs, Prompt, Opens}
use Rattle.composer_parser.specs.declared.Need.{Need}
use Rattle.composer_parser.specs.declared.Pred.{Pred}
use Rattle.composer_parser.specs.declared.PromptItem.{PromptItem}
use Rattle.composer_parser.specs.declared.PromptItem.TheVariants as ask
use Rattle.definition_names.specs.Names.{cpu_at, calendar_at, prompt_at, resource_at}
use Rattle.definition_names.specs.Targets.{target_of}

-- a workstation that is written and not defined
abbrev pub is_unknown_ws : Defs → Option (List ℕ) → Bool
is_unknown_ws d ws = option_map_or (λ name. is_none (cpu_at d name)) ws false

-- a calendar that is not defined; HOLIDAYS need not be
abbrev pub is_unknown_calendar : Defs → List ℕ → Bool
is_unknown_calendar d name = is_none (calendar_at d name) && not (bytes_eq name (codes "HOLIDAYS"))

-- the workstation that is written, or that of the object
abbrev pub ws_or : Option (List ℕ) → Option (List ℕ) → Option (List ℕ)
ws_or written own = option_or written own

-- a FOLLOWS of an unknown workstation, or one that stands for nothing
abbrev pub is_unknown_pred : Defs → ℕ → Bool → Pred → Bool
is_unknown_pred d stream inside p = is_unknown_ws d p.ws || is_none (target_of d stream inside p)

-- a NEEDS of an unknown workstation, or of a resource that it lacks
abbrev pub is_unknown_need : Defs → Option (List ℕ) → Need → Bool
is_unknown_need d own n =
    is_unknown_ws d n.ws || option_map_or (λ ws. is_none (resource_at d ws n.name)) (ws_or n.ws own) true

abbrev pub is_unknown_prompt : Defs → PromptItem → Bool
is_unknown_prompt d (ask.Name name) = is_none (prompt_at d name)
is_unknown_prompt d (ask.Own text) = false

-- a clause of an object in a stream, in its header or in an entry, where the object is on a workstation
abbrev pub has_unknown : Defs → ℕ → Bool → Option (List ℕ) → Clause → Bool
has_unknown d stream inside own (Follows ps) = list_any (is_unknown_pred d stream inside) ps
has_unknown d stream inside own (Needs ns) = list_any (is_unknown_need d own) ns
has_unknown d stream inside own (Prompt ps) = list_any (is_unknown_prompt d) ps
has_unknown d stream inside own (At t days) = false
has_unknown d stream inside own (Until t days u) = false
has_unknown d stream inside own (Deadline t days) = false
has_unknown d stream inside own (Priority n) = false
has_unknown d stream inside own (Limit n) = false
has_unknown d stream inside own CarryForward = false
has_unknown d stream inside own (Opens paths) = false
