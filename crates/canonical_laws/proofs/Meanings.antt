-- What definitions with one normal form give.
use Rattle.std.proofs.Common.{◌≡◌, ℕ, List, length, None, ap, sym, subst, ◌∙◌}
use Rattle.composer_parser.specs.declared.Defs.{Defs}
use Rattle.composer_laws.specs.Written.{AreDefs}
use Rattle.composer_print.specs.Normal.{normal}
use Rattle.composer_print.specs.Printed.{text_of, printed}
use Rattle.model.specs.Types.{StreamDraft}
use Rattle.plan_builder.specs.Drafts.{AreDrafts}
use Rattle.plan_builder.specs.Limits.{limit_fault, time_fault}
use Rattle.run_cycles.specs.Runs.{runs}
use Rattle.workload_defs.specs.Nets.{net_of, peers_of}
use Rattle.workload_defs.specs.Days.{free_of}
use Rattle.canonical_laws.proofs.Drafts.{drafts_both}
use Rattle.canonical_laws.proofs.Forms.{is_form}
use Rattle.canonical_laws.proofs.Networks.{nets_same, peers_same, free_same, count_same}
use Rattle.canonical_laws.proofs.Runs.{runs_same}
use Rattle.canonical_laws.proofs.Plans.{limits_same, times_both}

-- what is that of the normal form is the same of both
through : {A : Type 0} (f : Defs → A) → ((d : Defs) → f (normal d) ≡ f d) → (d e : Defs) → normal d ≡ normal e
    → f d ≡ f e
through f h d e same = sym (h d) ∙ ap f same ∙ h e

pub one_net : (d e : Defs) → normal d ≡ normal e → net_of d ≡ net_of e
one_net d e same = through net_of (λ x. nets_same x (normal x) (is_form x)) d e same

pub one_list_of_peers : (d e : Defs) → normal d ≡ normal e → peers_of d ≡ peers_of e
one_list_of_peers d e same = through (λ x. peers_of x) (λ x. peers_same x (normal x) (is_form x)) d e same

pub one_count : (d e : Defs) → normal d ≡ normal e → length d.schedules ≡ length e.schedules
one_count d e same = through (λ x. length x.schedules) (λ x. count_same x (normal x) (is_form x)) d e same

pub one_free : (d e : Defs) → normal d ≡ normal e → (n : ℕ) → free_of d n ≡ free_of e n
one_free d e same n = through (λ x. free_of x n) (λ x. free_same x (normal x) (is_form x) n) d e same

pub one_run : (d e : Defs) → normal d ≡ normal e → (n day : ℕ) → runs d n day ≡ runs e n day
one_run d e same n day = through (λ x. runs x n day) (λ x. runs_same x (normal x) (is_form x) n day) d e same

pub one_limit : (d e : Defs) → normal d ≡ normal e → (day : ℕ) → limit_fault d day ≡ limit_fault e day
one_limit d e same day = through (λ x. limit_fault x day) (λ x. limits_same x (normal x) (is_form x) day) d e same

pub timed_together : (d e : Defs) → normal d ≡ normal e → (day : ℕ) → time_fault d day ≡ None → time_fault e day ≡ None
timed_together d e same day none =
    (times_both e (normal e) (is_form e) day).1
    (subst (λ (x : Defs). time_fault x day ≡ None) same ((times_both d (normal d) (is_form d) day).0 none))

pub one_list_of_drafts : (d e : Defs) → AreDefs d → AreDefs e → normal d ≡ normal e
    → (day : ℕ) (drafts : List StreamDraft)
    → AreDrafts d day drafts → AreDrafts e day drafts
one_list_of_drafts d e ds es same day drafts are =
    (drafts_both e (normal e) (is_form e) es.schedules day drafts).1
    (subst (λ (x : Defs). AreDrafts x day drafts) same
    ((drafts_both d (normal d) (is_form d) ds.schedules day drafts).0 are))

pub one_text : (d e : Defs) → normal d ≡ normal e → printed d ≡ printed e
unfolding printed
one_text d e same = ap text_of same
