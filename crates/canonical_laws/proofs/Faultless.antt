-- Definitions and their normal form are faultless together.
use Rattle.std.proofs.Common.{◌≡◌, ℕ, false, List, [], ◌∷◌, ◌++◌, Contains, inl, inr, refl, ap, subst, ◌∙◌, arith}
use Rattle.std.proofs.Common.{slice_get, is_none}
use Rattle.lemmas.proofs.Booleans.{neither}
use Rattle.composer_parser.specs.declared.Lined.{Lined}
use Rattle.composer_parser.specs.declared.Defs.{Defs}
use Rattle.composer_parser.specs.declared.DomainDef.{DomainDef}
use Rattle.composer_print.specs.Normal as forms
use Rattle.composer_print.specs.Normal.{normal}
use Rattle.definition_names.specs.Names.{cpu_at}
use Rattle.definition_names.specs.Stations.{top_domains, only_manager}
use Rattle.definition_faults.specs.Faults.{tested_faults, IsFaultless}
use Rattle.definition_faults.specs.Graphs.{graph_of}
use Rattle.definition_faults.specs.Items.{cpu_faults, domain_faults, domain_rows, strays, lacks_parent, calendar_faults}
use Rattle.definition_faults.specs.Items.{prompt_faults, resource_faults, job_faults}
use Rattle.definition_faults.specs.Masters.{manager_faults, master_faults}
use Rattle.definition_faults.specs.Orders.{fault}
use Rattle.definition_faults.specs.Ranges.{zone_faults}
use Rattle.definition_faults.specs.Streams.{all_stream_faults}
use Rattle.definition_faults.specs.Unknown.{is_unknown_ws}
use Rattle.definition_faults.specs.declared.Fault.{Fault}
use Rattle.definition_faults.specs.declared.Kind.TheVariants.{OutOfRange, FollowsCycle}
use Rattle.follow_circles.specs.Circles.{IsOnCircle, line_of}
use Rattle.workload_defs.proofs.Clean.{rows_none}
use Rattle.workload_defs.proofs.Lists.{both_empty, from_filtered, nothing}
use Rattle.canonical_laws.proofs.Lists.{Both, append_then, append_both}
use Rattle.canonical_laws.proofs.Homes.{master_same}
use Rattle.canonical_laws.proofs.Forms.{IsForm, is_form}
use Rattle.canonical_laws.proofs.Items.{zones_both, cpus_both, domains_both, managers_both, masters_both}
use Rattle.canonical_laws.proofs.Items.{calendars_both, prompts_both, resources_both, jobs_both}
use Rattle.canonical_laws.proofs.Streams.{streams_both}
use Rattle.canonical_laws.proofs.Conditions.{AreConditions, conditions_both}
use Rattle.canonical_laws.proofs.Circles.{circles_both}

-- where the domains have no fault, the master is a workstation that is defined
known_by : (d : Defs) → domain_faults d ≡ [] → (tops : List (Lined DomainDef)) → top_domains d.domains ≡ tops
    → is_unknown_ws d (only_manager tops) ≡ false
unfolding domain_faults
known_by d none [] e = refl
known_by d none (x ∷ []) e =
    let there_ =
    from_filtered (λ (y : Lined DomainDef). is_none y.item.parent) d.domains 0 x
    (ap (λ (l : List (Lined DomainDef)). slice_get l 0) e) in
    let all =
    rows_none (λ (p : ℕ × Lined DomainDef). domain_rows d p.0 (strays d p.0) p.1.item)
    (λ p. p.1.line) 0 d.domains none there_.0
    there_.0 x (omega arith) there_.1 in
    (neither (is_none (cpu_at d x.item.manager)) (lacks_parent d x.item) all.1.0).0
known_by d none (x ∷ y ∷ l) e = refl

master_known : (d : Defs) → domain_faults d ≡ [] → is_unknown_ws d (forms.master_of d.domains) ≡ false
master_known d none =
    ap (λ w. is_unknown_ws d w) (master_same d.domains) ∙ known_by d none (top_domains d.domains) refl

-- the faults that tables tell
tested_both : (d e : Defs) → IsForm d e → Both (tested_faults d ≡ []) (tested_faults e ≡ [])
unfolding tested_faults
tested_both d e form =
    let two : Both (zone_faults d ++ cpu_faults d ≡ []) (zone_faults e ++ cpu_faults e ≡ []) =
    append_both (zone_faults d) (cpu_faults d) (zone_faults e) (cpu_faults e) (zones_both d e form)
    (cpus_both d e form) in
    let three = append_both _ (domain_faults d) _ (domain_faults e) two (domains_both d e form) in
    let four = append_both _ (manager_faults d) _ (manager_faults e) three (managers_both d e form) in
    let five = append_both _ (master_faults d) _ (master_faults e) four (masters_both d e form) in
    let six = append_both _ (calendar_faults d) _ (calendar_faults e) five (calendars_both d e form) in
    let seven = append_both _ (prompt_faults d) _ (prompt_faults e) six (prompts_both d e form) in
    let eight = append_both _ (resource_faults d) _ (resource_faults e) seven (resources_both d e form) in
    let nine = append_both _ (job_faults d) _ (job_faults e) eight (jobs_both d e form) in
    append_then _ (all_stream_faults d) _ (all_stream_faults e) nine
    (λ none.
    let resources = (both_empty _ (job_faults d) none).0 in
    let prompts = (both_empty _ (resource_faults d) resources).0 in
    let calendars = (both_empty _ (prompt_faults d) prompts).0 in
    let masters = (both_empty _ (calendar_faults d) calendars).0 in
    let managers = (both_empty _ (master_faults d) masters).0 in
    let domains = (both_empty _ (manager_faults d) managers).0 in
    streams_both d e form.names (forms.master_of d.domains) (master_same d.domains)
    (master_known d (both_empty _ (domain_faults d) domains).1) form.schedules)

-- definitions without a fault, part by part
record IsSound (d : Defs) : Type 0 where
  tested : tested_faults d ≡ []
  conditions : AreConditions d
  circles : (v : ℕ) → IsOnCircle (graph_of d) v → ⊥

sound_of : (d : Defs) → IsFaultless d → IsSound d
sound_of d none = record {
  tested = nothing (tested_faults d) (λ f there_. none f (inl there_));
  conditions = λ line bad. none (fault line OutOfRange) (inr (inl (refl, bad)));
  circles = λ v on. none (fault (line_of (graph_of d) v) FollowsCycle) (inr (inr (refl, (v, on, refl))));
}

no_item : (f : Fault) → Contains [] f → ⊥
no_item f (k, low, at) = absurd (omega (arith, low))

faultless_of : (d : Defs) → IsSound d → IsFaultless d
faultless_of d sound f (inl there_) = no_item f (subst (λ (l : List Fault). Contains l f) sound.tested there_)
faultless_of d sound f (inr (inl bad)) = sound.conditions f.line bad.1
faultless_of d sound f (inr (inr on)) = sound.circles on.1.0 on.1.1

faultless_both : (d e : Defs) → IsForm d e → Both (IsFaultless d) (IsFaultless e)
faultless_both d e form =
    let tested = tested_both d e form in
    let conditions = conditions_both d e form in (
      λ none.
          let s = sound_of d none in
          faultless_of e
          (record {
            tested = tested.0 s.tested;
            conditions = conditions.0 s.conditions;
            circles = λ v on. s.circles v ((circles_both d e form v).1 on);
          }),
      λ none.
          let s = sound_of e none in
          faultless_of d
          (record {
            tested = tested.1 s.tested;
            conditions = conditions.1 s.conditions;
            circles = λ v on. s.circles v ((circles_both d e form v).0 on);
          }),
    )

pub form_faultless : (d : Defs) → IsFaultless d → IsFaultless (normal d)
form_faultless d none = (faultless_both d (normal d) (is_form d)).0 none

pub one_form : (d e : Defs) → normal d ≡ normal e → IsFaultless d → IsFaultless e
one_form d e same none =
    (faultless_both e (normal e) (is_form e)).1 (subst (λ (x : Defs). IsFaultless x) same (form_faultless d none))
