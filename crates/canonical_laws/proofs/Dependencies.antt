-- The dependencies of an object are those of its normal form.
use Rattle.std.proofs.Common.{◌≡◌, ℕ, Bool, true, false, cond, eqb, List, [], ◌∷◌, ◌++◌, map, filter_map, flat_map}
use Rattle.std.proofs.Common.{Option, Some, None, refl, ap, sym, ◌∙◌}
use Rattle.std.proofs.Common.{append-nil, option_map, option_and_then, slice_get, unwrap_or}
use Rattle.std.proofs.lemmas.List.{map-append}
use Rattle.std.proofs.lemmas.List.Elements.{filter_map-append}
use Rattle.std.specs.Option.{option_or}
use Rattle.std.specs.Prelude.{min}
use Rattle.lemmas.proofs.Numbers.{number_tells}
use Rattle.composer_parser.specs.declared.Lined.{Lined}
use Rattle.composer_parser.specs.declared.Defs.{Defs}
use Rattle.composer_parser.specs.declared.Clause.{Clause}
use Rattle.composer_parser.specs.declared.Clause.TheVariants.{At, Until, Deadline, Follows, Needs, Prompt, Opens}
use Rattle.composer_parser.specs.declared.EntryDef.{EntryDef}
use Rattle.composer_parser.specs.declared.Need.{Need}
use Rattle.composer_parser.specs.declared.Pred.{Pred}
use Rattle.composer_parser.specs.declared.PromptItem.{PromptItem}
use Rattle.composer_parser.specs.declared.PromptItem.TheVariants as ask
use Rattle.composer_parser.specs.declared.ScheduleDef.{ScheduleDef}
use Rattle.composer_print.specs.Normal as forms
use Rattle.composer_print.specs.Normal.{all_unlined, entry_names, normal_entry, normal_schedule}
use Rattle.composer_print.specs.Scopes.{or_home, preds_in, needs_in, prompts_in, files_in, normal_pred, normal_need}
use Rattle.composer_print.specs.Scopes.{normal_clauses}
use Rattle.composer_print.specs.Streams.{items}
use Rattle.composer_print.specs.Texts.{unless}
use Rattle.composer_print.proofs.Joins.{items_unlined}
use Rattle.definition_names.specs.Names.{first_of, first_on}
use Rattle.definition_names.specs.Stations.{master_of, ws_of_stream}
use Rattle.definition_names.specs.declared.Target.{Target}
use Rattle.definition_names.specs.declared.Target.TheVariants.{Stream, Job}
use Rattle.base_types.specs.declared.Dep.TheVariants as dep
use Rattle.base_types.specs.declared.DraftDep.{DraftDep}
use Rattle.base_types.specs.declared.DraftDep.TheVariants as draft
use Rattle.base_types.specs.declared.PromptRef.TheVariants as ref
use Rattle.plan_builder.specs.Dependencies as deps
use Rattle.plan_builder.specs.Dependencies.{number_or_master, at_of, until_of, deadline_of, at_in, until_in}
use Rattle.plan_builder.specs.Dependencies.{deadline_in, follows_stream, follows_job, follows_at, follows_of}
use Rattle.plan_builder.specs.Dependencies.{number_from_one, resource_of, need_of, prompt_of, file_of, dependencies_of}
use Rattle.plan_builder.specs.declared.times.PlanDay.{PlanDay}
use Rattle.canonical_laws.proofs.Lists.{kept, picks_same, at_place}
use Rattle.canonical_laws.proofs.Homes.{home_of, master_same, home_kept}
use Rattle.canonical_laws.proofs.Targets.{AreEntries, target_kept}
use Rattle.canonical_laws.proofs.Named.{preds_named}
use Rattle.canonical_laws.proofs.Chosen.{IsOnly, of_kind, needs_named, prompts_named, files_named}
use Rattle.canonical_laws.proofs.Forms.{IsForm}
use Rattle.canonical_laws.proofs.Networks.{number_same}

-- clauses without their lines
pub items_flat : {B : Type 0} (h : Clause → List B) (cs : List (Lined Clause))
    → flat_map (λ (c : Lined Clause). h c.item) cs ≡ flat_map h (items cs)
items_flat h [] = refl
items_flat h (c ∷ cs) = ap (λ l. h c.item ++ l) (items_flat h cs)

pub flat_kept : {B : Type 0} (h : Clause → List B) (names : List (List ℕ)) (home own : Option (List ℕ))
    (cs : List (Lined Clause))
    → flat_map h (normal_clauses names home own (items cs)) ≡ flat_map h (items cs)
    → flat_map (λ (c : Lined Clause). h c.item) (all_unlined (normal_clauses names home own (items cs)))
    ≡ flat_map (λ (c : Lined Clause). h c.item) cs
flat_kept h names home own cs same =
    items_flat h (all_unlined (normal_clauses names home own (items cs)))
    ∙ ap (flat_map h) (items_unlined (normal_clauses names home own (items cs))) ∙ same ∙ sym (items_flat h cs)

-- times
at_only : (plan : PlanDay) → IsOnly (at_of plan) 0
at_only plan (At t days) h = cc
at_only plan c h = refl

until_only : (plan : PlanDay) → IsOnly (until_of plan) 1
until_only plan (Until t days u) h = cc
until_only plan c h = refl

deadline_only : (plan : PlanDay) → IsOnly (deadline_of plan) 2
deadline_only plan (Deadline t days) h = cc
deadline_only plan c h = refl

-- both name the same
preds_are : (c : Clause) → deps.preds_of c ≡ preds_in c
unfolding preds_in
preds_are (Follows ps) = refl
preds_are c = refl

needs_are : (c : Clause) → deps.needs_of c ≡ needs_in c
unfolding needs_in
needs_are (Needs ns) = refl
needs_are c = refl

prompts_are : (c : Clause) → deps.prompts_of c ≡ prompts_in c
unfolding prompts_in
prompts_are (Prompt ps) = refl
prompts_are c = refl

files_are : (c : Clause) → deps.paths_of c ≡ files_in c
unfolding files_in
files_are (Opens fs) = refl
files_are c = refl

-- what stands in lists
follows_flat : (f : Pred → Option DraftDep) (cs : List (Lined Clause))
    → flat_map (λ (c : Lined Clause). filter_map f (deps.preds_of c.item)) cs ≡ filter_map f
    (flat_map preds_in (items cs))
follows_flat f [] = refl
follows_flat f (c ∷ cs) =
    (λ i. filter_map f (preds_are c.item i) ++ follows_flat f cs i)
    ∙ sym (filter_map-append f (preds_in c.item) (flat_map preds_in (items cs)))

needs_flat : (f : Need → DraftDep) (cs : List (Lined Clause))
    → flat_map (λ (c : Lined Clause). map f (deps.needs_of c.item)) cs ≡ map f (flat_map needs_in (items cs))
needs_flat f [] = refl
needs_flat f (c ∷ cs) =
    (λ i. map f (needs_are c.item i) ++ needs_flat f cs i)
    ∙ sym (map-append f (needs_in c.item) (flat_map needs_in (items cs)))

prompts_flat : (f : PromptItem → DraftDep) (cs : List (Lined Clause))
    → flat_map (λ (c : Lined Clause). map f (deps.prompts_of c.item)) cs ≡ map f (flat_map prompts_in (items cs))
prompts_flat f [] = refl
prompts_flat f (c ∷ cs) =
    (λ i. map f (prompts_are c.item i) ++ prompts_flat f cs i)
    ∙ sym (map-append f (prompts_in c.item) (flat_map prompts_in (items cs)))

files_flat : (f : List ℕ → DraftDep) (cs : List (Lined Clause))
    → flat_map (λ (c : Lined Clause). map f (deps.paths_of c.item)) cs ≡ map f (flat_map files_in (items cs))
files_flat f [] = refl
files_flat f (c ∷ cs) =
    (λ i. map f (files_are c.item i) ++ files_flat f cs i)
    ∙ sym (map-append f (files_in c.item) (flat_map files_in (items cs)))

units_test : (n : ℕ) (b : Bool) → eqb n 1 ≡ b → unwrap_or (cond b None (Some n)) 1 ≡ n
units_test n true e = sym (number_tells n 1 e)
units_test n false e = refl

units_kept : (units : Option ℕ) → unwrap_or (unless 1 units) 1 ≡ unwrap_or units 1
units_kept None = refl
units_kept (Some n) = units_test n (eqb n 1) refl

own_kept : (ws own : Option (List ℕ)) → option_or (or_home ws own) own ≡ option_or ws own
own_kept (Some w) own = refl
own_kept None None = refl
own_kept None (Some o) = refl

module _ (d e : Defs) (form : IsForm d e) where
  pub number_kept : (a b : Option (List ℕ)) → a ≡ b → number_or_master e a ≡ number_or_master d b
  number_kept a b same = λ i. unwrap_or (option_and_then (λ name. number_same d e form name i) (same i)) 0

  stream_dep : (s : Lined ScheduleDef)
      → follows_stream e (normal_schedule (forms.master_of d.domains) s).item ≡ follows_stream d s.item
  unfolding normal_schedule
  stream_dep s =
      λ i. draft.Follows
      (number_kept (ws_of_stream e (normal_schedule (forms.master_of d.domains) s).item) (ws_of_stream d s.item)
      (home_kept (forms.master_of d.domains) (master_of e) (master_of d) (master_same d.domains) form.names.master s) i)
      s.item.name
      None

  job_dep : (s : Lined ScheduleDef) (names : List (List ℕ)) (home : Option (List ℕ)) (x : Lined EntryDef)
      → follows_job e (normal_schedule (forms.master_of d.domains) s).item (normal_entry names home x).item
      ≡ follows_job d s.item x.item
  unfolding normal_schedule normal_entry
  job_dep s names home x =
      λ i. draft.Follows
      (number_kept (ws_of_stream e (normal_schedule (forms.master_of d.domains) s).item) (ws_of_stream d s.item)
      (home_kept (forms.master_of d.domains) (master_of e) (master_of d) (master_same d.domains) form.names.master s) i)
      s.item.name
      (Some x.item.name)

  job_at_place : (k : ℕ) (s : Lined ScheduleDef)
      → option_map (λ (x : Lined EntryDef). follows_job e (normal_schedule (forms.master_of d.domains) s).item x.item)
      (slice_get (normal_schedule (forms.master_of d.domains) s).item.entries k)
      ≡ option_map (λ (x : Lined EntryDef). follows_job d s.item x.item) (slice_get s.item.entries k)
  unfolding normal_schedule
  job_at_place k s =
      let home : Option (List ℕ) = or_home s.item.ws (forms.master_of d.domains) in
      at_place (normal_entry (entry_names s.item.entries) home)
      (λ o. option_map
      (λ (x : Lined EntryDef). follows_job e (normal_schedule (forms.master_of d.domains) s).item x.item) o)
      (λ o. option_map (λ (x : Lined EntryDef). follows_job d s.item x.item) o) refl
      (λ x. ap Some (job_dep s (entry_names s.item.entries) home x)) s.item.entries k

  target_dep : (t : Target) → follows_at e t ≡ follows_at d t
  target_dep (Stream n) =
      ap (λ (ss : List (Lined ScheduleDef)). option_map (λ (s : Lined ScheduleDef). follows_stream e s.item)
      (slice_get ss n))
      form.schedules
      ∙ at_place (normal_schedule (forms.master_of d.domains))
      (λ o. option_map (λ (s : Lined ScheduleDef). follows_stream e s.item) o)
      (λ o. option_map (λ (s : Lined ScheduleDef). follows_stream d s.item) o) refl
      (λ s. ap Some (stream_dep s)) d.schedules n
  target_dep (Job n k) =
      ap (λ (ss : List (Lined ScheduleDef)).
      option_and_then
      (λ (s : Lined ScheduleDef). option_map (λ (x : Lined EntryDef). follows_job e s.item x.item)
      (slice_get s.item.entries k))
      (slice_get ss n)) form.schedules
      ∙ at_place (normal_schedule (forms.master_of d.domains))
      (λ o. option_and_then
      (λ (s : Lined ScheduleDef). option_map (λ (x : Lined EntryDef). follows_job e s.item x.item)
      (slice_get s.item.entries k)) o)
      (λ o. option_and_then
      (λ (s : Lined ScheduleDef). option_map (λ (x : Lined EntryDef). follows_job d s.item x.item)
      (slice_get s.item.entries k)) o)
      refl (job_at_place k) d.schedules n

  need_kept : (own : Option (List ℕ)) (x : Need) → need_of e own (normal_need own x) ≡ need_of d own x
  unfolding normal_need
  need_kept own x =
      λ i. draft.Plain (dep.Needs
      (number_from_one (option_and_then (λ ws. first_on (form.names.resources i) ws x.name) (own_kept x.ws own i)))
      (min (units_kept x.units i) 1024))

  prompt_kept : (p : PromptItem) → prompt_of e p ≡ prompt_of d p
  prompt_kept (ask.Name name) =
      λ i. draft.Plain (dep.Prompt (ref.Global (number_from_one (first_of (form.names.prompts i) name))))
  prompt_kept (ask.Own text) = refl

  pub dependencies_same : (plan : PlanDay) (n : ℕ) (inside : Bool) (names : List (List ℕ)) (home own : Option (List ℕ))
      → AreEntries d n inside names → home_of d n ≡ home → (cs : List (Lined Clause))
      → dependencies_of e plan n inside own (all_unlined (normal_clauses names home own (items cs)))
      ≡ dependencies_of d plan n inside own cs
  unfolding dependencies_of
  dependencies_same plan n inside names home own k eh cs =
      let form_cs : List Clause = normal_clauses names home own (items cs) in
      let all : List (Lined Clause) = all_unlined form_cs in
      let back : items all ≡ form_cs = items_unlined form_cs in
      let ats =
      flat_kept (at_of plan) names home own cs
      (of_kind (at_of plan) 0 (at_only plan) refl refl refl refl refl names home own (items cs)
      ∙ append-nil (flat_map (at_of plan) (items cs))) in
      let untils =
      flat_kept (until_of plan) names home own cs
      (of_kind (until_of plan) 1 (until_only plan) refl refl refl refl refl names home own (items cs)
      ∙ append-nil (flat_map (until_of plan) (items cs))) in
      let deadlines =
      flat_kept (deadline_of plan) names home own cs
      (of_kind (deadline_of plan) 2 (deadline_only plan) refl refl refl refl refl names home own (items cs)
      ∙ append-nil (flat_map (deadline_of plan) (items cs))) in
      let one : (p : Pred) → follows_of e n inside (normal_pred names home p) ≡ follows_of d n inside p =
      λ p. λ i. option_and_then (λ t. target_dep t i) (target_kept d e form.names n inside names home k eh p i) in
      let follows =
      follows_flat (follows_of e n inside) all
      ∙ ap (filter_map (follows_of e n inside)) (ap (flat_map preds_in) back ∙ preds_named names home own (items cs))
      ∙ picks_same (follows_of d n inside) (follows_of e n inside) (normal_pred names home) one
      (flat_map preds_in (items cs))
      ∙ sym (follows_flat (follows_of d n inside) cs) in
      let needs =
      needs_flat (need_of e own) all
      ∙ ap (map (need_of e own)) (ap (flat_map needs_in) back ∙ needs_named names home own (items cs))
      ∙ kept (need_of e own) (need_of d own) (normal_need own) (need_kept own) (flat_map needs_in (items cs))
      ∙ sym (needs_flat (need_of d own) cs) in
      let prompts =
      prompts_flat (prompt_of e) all
      ∙ ap (map (prompt_of e)) (ap (flat_map prompts_in) back ∙ prompts_named names home own (items cs))
      ∙ (λ i. map (λ p. prompt_kept p i) (flat_map prompts_in (items cs))) ∙ sym (prompts_flat (prompt_of d) cs) in
      let files =
      files_flat file_of all ∙ ap (map file_of) (ap (flat_map files_in) back ∙ files_named names home own (items cs))
      ∙ sym (files_flat file_of cs) in
      λ i. ats i ++ untils i ++ deadlines i ++ follows i ++ needs i ++ prompts i ++ files i
