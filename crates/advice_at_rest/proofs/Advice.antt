-- What holds of the order that a workstation advises itself.
use Rattle.std.proofs.Common.{◌≡◌, ℕ, Bool, true, false, not, ◌⊎◌, inl, inr, List, refl, sym, subst, ◌∙◌}
use Rattle.std.proofs.Common.{Option, Some, None}
use Rattle.std.proofs.lemmas.Bool.{eqb-true}
use Rattle.std.specs.Option.{option_map_or}
use Rattle.std.specs.Prelude.{◌==◌, IfSome, filter, if◌then◌else◌, is_some, option_and_then}
use Rattle.lemmas.proofs.Booleans.{and_made, neither_left, not_holds}
use Rattle.base_types.specs.declared.Recovery.{Recovery}
use Rattle.base_types.specs.declared.Recovery.TheVariants as recovery
use Rattle.model.specs.Types.{Body, Cmd, Confirm, Events, Job, Rerun, Stream}
use Rattle.model.specs.Words.{least}
use Rattle.model.specs.History.{View}
use Rattle.model.specs.Catalogue.{StreamJob, is_member, job}
use Rattle.model.specs.Facts.{LastLaunch, first_code, is_cancelled, is_due, is_good, is_open, last_end, last_launch, reruns}
use Rattle.model.specs.OwnMembers.{own_job_numbers}
use Rattle.model_laws.proofs.Decisions.{job_number}
use Rattle.model_laws.proofs.Options.{least_passes}
use Rattle.recovery_watch.specs.Advice.{advice, advised_at, advised_by, has_ended_badly, is_called_off, is_waiting}
use Rattle.recovery_watch.specs.Advice.{needs_advice, needs_advice_in, recovers}
use Rattle.advice_at_rest.specs.Advices.{is_over_badly, is_own_member}
use Rattle.advice_at_rest.proofs.Obeyed.{own_member_is}
use Rattle.advice_at_rest.proofs.Over.{five_parts, four_parts, over_made}

-- it confirms or reruns a job of w's that is over badly, and no own order waits
pub record Advises (V : View) (w : ℕ) (c : Cmd) : Type 0 where
  pub job_ : ℕ
  pub form : (c ≡ Confirm job_) ⊎ ((c ≡ Rerun job_) × (reruns job_ (V (Events w)) ≡ 0))
  pub over : is_over_badly job_ (V (Events w)) ≡ true
  pub mine : is_own_member (V (Events 0)) w job_ ≡ true
  pub none_waits : is_waiting V w ≡ false

-- a job with a return code was launched
was_launched : (j : ℕ) (L : List Body) → is_some (last_end j L) ≡ true → is_some (last_launch j L) ≡ true
unfolding last_end
was_launched j L h = go (last_launch j L) h
  where
    go : (o : Option LastLaunch) → is_some (option_and_then (λ (l : LastLaunch). first_code j l.number l.later) o) ≡ true
        → is_some o ≡ true
    go None k = cc
    go (Some l) k = refl

module _ (V : View) (w : ℕ) (c : Cmd) (quiet : is_waiting V w ≡ false) where
  module _ (n : ℕ) (p : StreamJob) (found : job V n ≡ Some p) (h : needs_advice_in V w p ≡ true) where
    abbrev L : List Body
    L = V (Events w)

    its_parts : ((p.doc.ws == w) ≡ true) × (is_member V p.parent.no ≡ true) × (has_ended_badly p.doc.no L ≡ true)
        × (not (is_called_off V w p) ≡ true) × (recovers p.doc.recovery (reruns p.doc.no L) ≡ true)
    its_parts =
        five_parts (p.doc.ws == w) (is_member V p.parent.no) (has_ended_badly p.doc.no L) (not (is_called_off V w p))
        (recovers p.doc.recovery (reruns p.doc.no L)) h

    its_end : (not (is_due p.doc.no L) ≡ true) × (not (is_open p.doc.no L) ≡ true) × (not (is_good p.doc.no L) ≡ true)
        × (is_some (last_end p.doc.no L) ≡ true)
    its_end =
        four_parts (not (is_due p.doc.no L)) (not (is_open p.doc.no L)) (not (is_good p.doc.no L)) (is_some (last_end p.doc.no L))
        its_parts.2

    is_over : is_over_badly p.doc.no L ≡ true
    is_over = over_made p.doc.no L (record {
      due = not_holds (is_due p.doc.no L) its_end.0;
      open_ = not_holds (is_open p.doc.no L) its_end.1;
      good = not_holds (is_good p.doc.no L) its_end.2;
      cancelled =
          neither_left (is_cancelled (Job p.doc.no) L) (is_cancelled (Stream p.parent.no) (V (Events p.parent.ws)))
          (not_holds (is_called_off V w p) its_parts.3);
      launched = was_launched p.doc.no L its_end.3;
    })

    its_number : p.doc.no ≡ n
    its_number = job_number V n p found

    is_mine : is_own_member (V (Events 0)) w p.doc.no ≡ true
    is_mine =
        subst (λ (i : ℕ). is_own_member (V (Events 0)) w i ≡ true) (sym its_number)
        (own_member_is V w n
        ∙ (rw found
        (and_made (p.doc.ws == w) (is_member V p.parent.no) its_parts.0 its_parts.1)))

    by_form : (r : Recovery) → advised_by r p.doc.no ≡ Some c → recovers r (reruns p.doc.no L) ≡ true
        → (c ≡ Confirm p.doc.no) ⊎ ((c ≡ Rerun p.doc.no) × (reruns p.doc.no L ≡ 0))
    by_form recovery.Stop e k = cc
    by_form recovery.Continue e k = let same : Confirm p.doc.no ≡ c = cc in inl (sym same)
    by_form recovery.Rerun e k =
        let same : Rerun p.doc.no ≡ c = cc in inr (sym same, eqb-true (reruns p.doc.no L) 0 k)

    advises_it : advised_by p.doc.recovery p.doc.no ≡ Some c → Advises V w c
    advises_it e = record {
      job_ = p.doc.no;
      form = by_form p.doc.recovery e its_parts.4;
      over = is_over;
      mine = is_mine;
      none_waits = quiet;
    }

  by_job : (n : ℕ) (o : Option StreamJob) → job V n ≡ o → option_map_or (needs_advice_in V w) o false ≡ true
      → option_and_then (λ (p : StreamJob). advised_by p.doc.recovery p.doc.no) o ≡ Some c → Advises V w c
  by_job n None found h e = cc
  by_job n (Some p) found h e = advises_it n p found h e

  needs_it : (n : ℕ) → needs_advice V w n ≡ true → option_map_or (needs_advice_in V w) (job V n) false ≡ true
  unfolding needs_advice
  needs_it n h = h

  by_least : (o : Option ℕ) → IfSome o (λ n. needs_advice V w n ≡ true) → option_and_then (advised_at V) o ≡ Some c
      → Advises V w c
  by_least None h e = cc
  by_least (Some n) h e = by_job n (job V n) refl (needs_it n h) e

pub advises : (V : View) (w : ℕ) (c : Cmd) → advice V w ≡ Some c → Advises V w c
unfolding advice
advises V w c e = go (is_waiting V w) refl e
  where
    go : (b : Bool) → is_waiting V w ≡ b
        → (if b then None
        else option_and_then (advised_at V) (least (filter (needs_advice V w) (own_job_numbers V w))))
        ≡ Some c
        → Advises V w c
    go true is h = cc
    go false is h =
        by_least V w c is (least (filter (needs_advice V w) (own_job_numbers V w)))
        (least_passes (needs_advice V w) (own_job_numbers V w)) h
