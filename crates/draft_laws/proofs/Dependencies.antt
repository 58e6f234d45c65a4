-- The dependencies of drafts are fit.
use Rattle.std.proofs.Common.{◌≡◌, ◌≤◌, ◌+◌, ℕ, Bool, List, [], ◌∷◌, ◌++◌, length, map, flat_map, Option, Some, None, option_map, option_and_then, arith, length-append}
use Rattle.std.specs.List.{All, cons_option, filter_map, slice_get, sum_by}
use Rattle.std.proofs.lemmas.List.{length-map}
use Rattle.std.proofs.lemmas.List.Elements.{All-append, All-cons, All-map, All-nil}
use Rattle.std.proofs.lemmas.List.Sums.{sum_by-cons}
use Rattle.composer_parser.specs.declared.Lined.{Lined}
use Rattle.composer_parser.specs.declared.Clause.{Clause}
use Rattle.composer_parser.specs.declared.Clause.TheVariants as clause
use Rattle.composer_parser.specs.declared.Defs.{Defs}
use Rattle.composer_parser.specs.declared.EntryDef.{EntryDef}
use Rattle.composer_parser.specs.declared.Pred.{Pred}
use Rattle.composer_parser.specs.declared.PromptItem.{PromptItem}
use Rattle.composer_parser.specs.declared.PromptItem.TheVariants as ask
use Rattle.composer_parser.specs.declared.ScheduleDef.{ScheduleDef}
use Rattle.composer_print.specs.Streams.{items}
use Rattle.composer_laws.specs.Written.{WhenGiven, Each, IsList, IsText, IsPromptItem, IsClause, AreClauses, IsEntry, IsSchedule}
use Rattle.definition_names.specs.Targets.{target_of}
use Rattle.definition_names.specs.declared.Target.{Target}
use Rattle.definition_names.specs.declared.Target.TheVariants.{Stream, Job}
use Rattle.model.specs.Types.{DraftDep}
use Rattle.model.specs.Fit.{AreFit, IsFitDraftDep}
use Rattle.plan_builder.specs.Dependencies.{at_of, until_of, deadline_of, follows_at, follows_of, follows_stream, follows_job, followed_in, need_of, needed_in, prompt_of, asked_in, file_of, opened_in}
use Rattle.plan_builder.specs.Dependencies.{at_in, until_in, deadline_in, follows_in, needs_in, prompts_in, files_in, dependencies_of}
use Rattle.plan_builder.specs.declared.times.PlanDay.{PlanDay}
use Rattle.draft_laws.proofs.Weights.{clause_weight, lined_weight}
use Rattle.draft_laws.proofs.Texts.{name_fit, given_at}

abbrev Fit : List DraftDep → Type 0
Fit deps = All IsFitDraftDep deps

-- what comes of each of a list
each_fit : {A : Type 0} (P : A → Type 0) (make : A → DraftDep) → ((x : A) → P x → IsFitDraftDep (make x)) → (xs : List A)
    → Each P xs → Fit (map make xs)
each_fit P make fit [] h = All-nil IsFitDraftDep
each_fit P make fit (x ∷ xs) h =
    All-cons IsFitDraftDep (make x) (map make xs) (fit x h.0) (each_fit P make fit xs h.1)

list_fit : {A : Type 0} (P : A → Type 0) (make : A → DraftDep) → ((x : A) → P x → IsFitDraftDep (make x)) → (xs : List A)
    → IsList P xs → Fit (map make xs)
list_fit P make fit [] h = absurd h
list_fit P make fit (x ∷ xs) h =
    All-cons IsFitDraftDep (make x) (map make xs) (fit x h.0) (each_fit P make fit xs h.1)

-- times
one_fit : (dep : DraftDep) → IsFitDraftDep dep → Fit (dep ∷ [])
one_fit dep h = All-cons IsFitDraftDep dep [] h (All-nil IsFitDraftDep)

none_fit : Fit []
none_fit = All-nil IsFitDraftDep

at_fit : (plan : PlanDay) (x : Clause) → Fit (at_of plan x)
at_fit plan (clause.At minute days) = one_fit _ tt
at_fit plan x = none_fit

until_fit : (plan : PlanDay) (x : Clause) → Fit (until_of plan x)
until_fit plan (clause.Until minute days u) = one_fit _ tt
until_fit plan x = none_fit

deadline_fit : (plan : PlanDay) (x : Clause) → Fit (deadline_of plan x)
deadline_fit plan (clause.Deadline minute days) = one_fit _ tt
deadline_fit plan x = none_fit

-- a FOLLOWS has names of streams and entries of the same definitions
stream_given : (d : Defs) (o : Option (Lined ScheduleDef)) → WhenGiven (λ (s : Lined ScheduleDef). IsSchedule s.item) o
    → WhenGiven IsFitDraftDep (option_map (λ (s : Lined ScheduleDef). follows_stream d s.item) o)
stream_given d None h = tt
stream_given d (Some s) h = (name_fit s.item.name h.name, tt)

job_given : (d : Defs) (s : ScheduleDef) (o : Option (Lined EntryDef)) → IsSchedule s
    → WhenGiven (λ (e : Lined EntryDef). IsEntry e.item) o
    → WhenGiven IsFitDraftDep (option_map (λ (e : Lined EntryDef). follows_job d s e.item) o)
job_given d s None h k = tt
job_given d s (Some e) h k = (name_fit s.name h.name, name_fit e.item.name k.name)

abbrev job_at_place : Defs → ℕ → Lined ScheduleDef → Option DraftDep
job_at_place d i s = option_map (λ (e : Lined EntryDef). follows_job d s.item e.item) (slice_get s.item.entries i)

job_of_given : (d : Defs) (i : ℕ) (o : Option (Lined ScheduleDef)) → WhenGiven (λ (s : Lined ScheduleDef). IsSchedule s.item) o
    → WhenGiven IsFitDraftDep (option_and_then (job_at_place d i) o)
job_of_given d i None h = tt
job_of_given d i (Some s) h =
    job_given d s.item (slice_get s.item.entries i) h (given_at IsEntry s.item.entries i h.entries)

target_given : (d : Defs) (o : Option Target) → Each IsSchedule (items d.schedules)
    → WhenGiven IsFitDraftDep (option_and_then (follows_at d) o)
target_given d None h = tt
target_given d (Some (Stream n)) h = stream_given d (slice_get d.schedules n) (given_at IsSchedule d.schedules n h)
target_given d (Some (Job n i)) h = job_of_given d i (slice_get d.schedules n) (given_at IsSchedule d.schedules n h)

preds_fit : (d : Defs) (n : ℕ) (inside : Bool) → Each IsSchedule (items d.schedules) → (ps : List Pred)
    → Fit (filter_map (follows_of d n inside) ps)
preds_fit d n inside h [] = none_fit
preds_fit d n inside h (p ∷ ps) =
    go (follows_of d n inside p) (target_given d (target_of d n inside p) h) (preds_fit d n inside h ps)
  where
    go : (o : Option DraftDep) → WhenGiven IsFitDraftDep o → Fit (filter_map (follows_of d n inside) ps)
        → Fit (cons_option o (filter_map (follows_of d n inside) ps))
    go None k more = more
    go (Some dep) k more = All-cons IsFitDraftDep dep (filter_map (follows_of d n inside) ps) k more

follows_fit : (d : Defs) (n : ℕ) (inside : Bool) → Each IsSchedule (items d.schedules) → (x : Clause)
    → Fit (followed_in d n inside x)
follows_fit d n inside h (clause.Follows ps) = preds_fit d n inside h ps
follows_fit d n inside h x = none_fit

-- resources, prompts and files
needs_fit : (d : Defs) (own : Option (List ℕ)) (x : Clause) → Fit (needed_in d own x)
needs_fit d own (clause.Needs ns) = All-map IsFitDraftDep (need_of d own) ns (λ k e within. tt)
needs_fit d own x = none_fit

prompt_fit : (d : Defs) (p : PromptItem) → IsPromptItem p → IsFitDraftDep (prompt_of d p)
prompt_fit d (ask.Name name) h = tt
prompt_fit d (ask.Own text) h = h.room

prompts_fit : (d : Defs) (x : Clause) → IsClause x → Fit (asked_in d x)
prompts_fit d (clause.Prompt ps) h = list_fit IsPromptItem (prompt_of d) (prompt_fit d) ps h
prompts_fit d x h = none_fit

files_fit : (x : Clause) → IsClause x → Fit (opened_in x)
files_fit (clause.Opens paths) h = list_fit IsText file_of (λ path k. k.room) paths h
files_fit x h = none_fit

-- of all clauses
clauses_fit : (make : Lined Clause → List DraftDep) → ((l : Lined Clause) → IsClause l.item → Fit (make l)) → (stream : Bool)
    (done : List Clause) (cs : List (Lined Clause)) → AreClauses stream done (items cs) → Fit (flat_map make cs)
clauses_fit make fit stream done [] h = none_fit
clauses_fit make fit stream done (l ∷ cs) h =
    All-append IsFitDraftDep (make l) (flat_map make cs) (fit l h.0)
    (clauses_fit make fit stream (done ++ l.item ∷ []) cs h.2)

all_fit : (d : Defs) (plan : PlanDay) (n : ℕ) (inside : Bool) (own : Option (List ℕ)) (stream : Bool) (cs : List (Lined Clause))
    → Each IsSchedule (items d.schedules) → AreClauses stream [] (items cs) → Fit (dependencies_of d plan n inside own cs)
unfolding dependencies_of
all_fit d plan n inside own stream cs h k =
    both _ _
    (both _ _
    (both _ _
    (both _ _
    (both _ _
    (both _ _ (clauses_fit (at_in plan) (λ l e. at_fit plan l.item) stream [] cs k)
    (clauses_fit (until_in plan) (λ l e. until_fit plan l.item) stream [] cs k))
    (clauses_fit (deadline_in plan) (λ l e. deadline_fit plan l.item) stream [] cs k))
    (clauses_fit (follows_in d n inside) (λ l e. follows_fit d n inside h l.item) stream [] cs k))
    (clauses_fit (needs_in d own) (λ l e. needs_fit d own l.item) stream [] cs k))
    (clauses_fit (prompts_in d) (λ l e. prompts_fit d l.item e) stream [] cs k))
    (clauses_fit files_in (λ l e. files_fit l.item e) stream [] cs k)
  where
    both : (xs ys : List DraftDep) → Fit xs → Fit ys → Fit (xs ++ ys)
    both xs ys p q = All-append IsFitDraftDep xs ys p q

-- at most so many of one clause
preds_few : (d : Defs) (n : ℕ) (inside : Bool) (ps : List Pred) → length (filter_map (follows_of d n inside) ps) ≤ length ps
preds_few d n inside [] = omega arith
preds_few d n inside (p ∷ ps) = go (follows_of d n inside p) (preds_few d n inside ps)
  where
    go : (o : Option DraftDep) → length (filter_map (follows_of d n inside) ps) ≤ length ps
        → length (cons_option o (filter_map (follows_of d n inside) ps)) ≤ length (p ∷ ps)
    go None h = omega (arith, h)
    go (Some dep) h = omega (arith, h)

clause_few : (d : Defs) (plan : PlanDay) (n : ℕ) (inside : Bool) (own : Option (List ℕ)) (x : Clause)
    → length (at_of plan x) + length (until_of plan x) + length (deadline_of plan x) + length (followed_in d n inside x)
    + length (needed_in d own x) + length (asked_in d x) + length (opened_in x) ≤ clause_weight x
clause_few d plan n inside own (clause.Follows ps) = omega (arith, preds_few d n inside ps)
clause_few d plan n inside own (clause.Needs ns) = omega (arith, length-map ns (need_of d own))
clause_few d plan n inside own (clause.Prompt ps) = omega (arith, length-map ps (prompt_of d))
clause_few d plan n inside own (clause.Opens paths) = omega (arith, length-map paths file_of)
clause_few d plan n inside own x = omega arith

clauses_few : (d : Defs) (plan : PlanDay) (n : ℕ) (inside : Bool) (own : Option (List ℕ)) (cs : List (Lined Clause))
    → length (flat_map (at_in plan) cs) + length (flat_map (until_in plan) cs) + length (flat_map (deadline_in plan) cs)
    + length (flat_map (follows_in d n inside) cs) + length (flat_map (needs_in d own) cs)
    + length (flat_map (prompts_in d) cs) + length (flat_map files_in cs) ≤ sum_by lined_weight cs
clauses_few d plan n inside own [] = omega arith
clauses_few d plan n inside own (l ∷ cs) =
    omega (
      arith,
      clauses_few d plan n inside own cs,
      clause_few d plan n inside own l.item,
      sum_by-cons lined_weight l cs,
      length-append (at_in plan l) (flat_map (at_in plan) cs),
      length-append (until_in plan l) (flat_map (until_in plan) cs),
      length-append (deadline_in plan l) (flat_map (deadline_in plan) cs),
      length-append (follows_in d n inside l) (flat_map (follows_in d n inside) cs),
      length-append (needs_in d own l) (flat_map (needs_in d own) cs),
      length-append (prompts_in d l) (flat_map (prompts_in d) cs),
      length-append (files_in l) (flat_map files_in cs),
    )

-- the lengths of seven lists one behind the other
seven : {A : Type 0} (a b p q r s t : List A) → length (a ++ b ++ p ++ q ++ r ++ s ++ t)
    ≡ length a + length b + length p + length q + length r + length s + length t
seven a b p q r s t =
    omega (
      arith,
      length-append (a ++ b ++ p ++ q ++ r ++ s) t,
      length-append (a ++ b ++ p ++ q ++ r) s,
      length-append (a ++ b ++ p ++ q) r,
      length-append (a ++ b ++ p) q,
      length-append (a ++ b) p,
      length-append a b,
    )

pub all_few : (d : Defs) (plan : PlanDay) (n : ℕ) (inside : Bool) (own : Option (List ℕ)) (cs : List (Lined Clause))
    → length (dependencies_of d plan n inside own cs) ≤ sum_by lined_weight cs
unfolding dependencies_of
all_few d plan n inside own cs =
    omega (
      arith,
      clauses_few d plan n inside own cs,
      seven (flat_map (at_in plan) cs) (flat_map (until_in plan) cs) (flat_map (deadline_in plan) cs)
          (flat_map (follows_in d n inside) cs) (flat_map (needs_in d own) cs) (flat_map (prompts_in d) cs) (flat_map files_in cs),
    )

pub deps_fit : (d : Defs) (plan : PlanDay) (n : ℕ) (inside : Bool) (own : Option (List ℕ)) (stream : Bool)
    (cs : List (Lined Clause)) → Each IsSchedule (items d.schedules) → AreClauses stream [] (items cs)
    → sum_by lined_weight cs ≤ 4294967295 → AreFit IsFitDraftDep (dependencies_of d plan n inside own cs)
deps_fit d plan n inside own stream cs h k few =
    (omega (arith, all_few d plan n inside own cs, few), all_fit d plan n inside own stream cs h k)
