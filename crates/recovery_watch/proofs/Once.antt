-- A job that is advised to be rerun was not rerun.
use Rattle.std.proofs.Common.{◌≡◌, ◌∷◌, [], ℕ, Bool, List, None, Option, Some, false, subst, true}
use Rattle.std.proofs.lemmas.Bool.{eqb-true}
use Rattle.std.specs.Option.{option_map_or}
use Rattle.std.specs.Prelude.{◌==◌, IfSome, filter, if◌then◌else◌, not, option_and_then}
use Rattle.lemmas.proofs.Booleans.{and_left, and_right}
use Rattle.base_types.specs.declared.Recovery.{Recovery}
use Rattle.base_types.specs.declared.Recovery.TheVariants as recovery
use Rattle.model.specs.Types.{Cmd, Events, Rerun}
use Rattle.model.specs.Words.{all_of, least}
use Rattle.model.specs.History.{View}
use Rattle.model.specs.Catalogue.{StreamJob, is_member, job}
use Rattle.model.specs.Facts.{reruns}
use Rattle.model.specs.OwnMembers.{own_job_numbers}
use Rattle.model_laws.proofs.Options.{least_passes}
use Rattle.recovery_watch.specs.Advice.{advice, advised_at, advised_by, has_ended_badly, is_called_off, is_waiting}
use Rattle.recovery_watch.specs.Advice.{needs_advice, needs_advice_in, recovers}

fifth : (a b c d e : Bool) → all_of (a ∷ b ∷ c ∷ d ∷ e ∷ []) ≡ true → e ≡ true
fifth a b c d e h = and_left e true (and_right d _ (and_right c _ (and_right b _ (and_right a _ h))))

-- a recovery that advises to rerun
by_recovery : (r : Recovery) (k j n : ℕ) → advised_by r k ≡ Some (Rerun j) → recovers r n ≡ true
    → (k ≡ j) × (n ≡ 0)
by_recovery recovery.Stop k j n e h = cc
by_recovery recovery.Continue k j n e h = cc
by_recovery recovery.Rerun k j n e h =
    let same : k ≡ j = cc in
    (same, eqb-true n 0 h)

passed : (V : View) (w : ℕ) (p : StreamJob) → needs_advice_in V w p ≡ true
    → recovers p.doc.recovery (reruns p.doc.no (V (Events w))) ≡ true
passed V w p h =
    fifth (p.doc.ws == w) (is_member V p.parent.no) (has_ended_badly p.doc.no (V (Events w)))
    (not (is_called_off V w p)) (recovers p.doc.recovery (reruns p.doc.no (V (Events w)))) h

by_job : (V : View) (w j : ℕ) (o : Option StreamJob) → option_map_or (needs_advice_in V w) o false ≡ true
    → option_and_then (λ (p : StreamJob). advised_by p.doc.recovery p.doc.no) o ≡ Some (Rerun j)
    → reruns j (V (Events w)) ≡ 0
by_job V w j None h e = cc
by_job V w j (Some p) h e =
    let both = by_recovery p.doc.recovery p.doc.no j (reruns p.doc.no (V (Events w))) e (passed V w p h) in
    subst (λ (k : ℕ). reruns k (V (Events w)) ≡ 0) both.0 both.1

needs_job : (V : View) (w n : ℕ) → needs_advice V w n ≡ true → option_map_or (needs_advice_in V w) (job V n) false ≡ true
unfolding needs_advice
needs_job V w n h = h

by_lowest : (V : View) (w j : ℕ) (o : Option ℕ) → IfSome o (λ n. needs_advice V w n ≡ true)
    → option_and_then (advised_at V) o ≡ Some (Rerun j) → reruns j (V (Events w)) ≡ 0
by_lowest V w j None h e = cc
by_lowest V w j (Some n) h e = by_job V w j (job V n) (needs_job V w n h) e

pub advised_once : (V : View) (w j : ℕ) → advice V w ≡ Some (Rerun j) → reruns j (V (Events w)) ≡ 0
unfolding advice
advised_once V w j e = go (is_waiting V w) e
  where
    go : (b : Bool)
        → (if b then None
        else option_and_then (advised_at V) (least (filter (needs_advice V w) (own_job_numbers V w))))
        ≡ Some (Rerun j)
        → reruns j (V (Events w)) ≡ 0
    go true h = cc
    go false h =
        by_lowest V w j (least (filter (needs_advice V w) (own_job_numbers V w)))
        (least_passes (needs_advice V w) (own_job_numbers V w)) h
