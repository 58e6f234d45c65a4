-- What a workstation can still advise itself, after one more event of its own.
use Rattle.std.proofs.Common.{◌≡◌, ℕ, ◌+◌, ◌<◌, ◌≤◌, true, false, inl, inr, List, [], ◌∷◌, ◌++◌, drop, take}
use Rattle.std.proofs.Common.{refl, ap, sym, subst, ◌∙◌, arith, Option, Some, None}
use Rattle.std.proofs.lemmas.Bool.{eq-eqb, eqb-true}
use Rattle.std.proofs.lemmas.Bool.Decides.{eqb_tells}
use Rattle.std.specs.Prelude.{eqb, option_and_then, slice_get}
use Rattle.lemmas.proofs.Booleans.{and_left, and_right, contrary}
use Rattle.lemmas.proofs.Options.{none_some}
use Rattle.model.specs.Types.{Added, Body, Cmd, Confirm, Declined, Events, Launched, Net, Obeyed, Order, Rerun, StreamDoc, StreamDraft, Submit}
use Rattle.model.specs.Types.{Why}
use Rattle.model.specs.Words.{below}
use Rattle.model.specs.History.{Seen, View}
use Rattle.model.specs.Facts.{answered, answers_to, is_launch_of, launches, obeyed_command, reruns}
use Rattle.model.specs.Turn.{next_order, ordered_command}
use Rattle.model.specs.Verdicts.{verdict}
use Rattle.model_laws.proofs.Answered.{answered-append}
use Rattle.rest_laws.specs.Gains.{sum_over}
use Rattle.rest_laws.specs.Left.{done}
use Rattle.rest_laws.proofs.Ahead.{drop_low, drop_next}
use Rattle.rest_laws.proofs.Falls.{answered_one, hits, reruns_none, sum_over_falls}
use Rattle.rest_laws.proofs.Gains.{sum_over_low}
use Rattle.rest_laws.proofs.Lefts.{sum_over_more}
use Rattle.advice_at_rest.specs.Advices.{advices_at, advices_of, is_about, is_over_badly, is_own_member, is_taken_up}
use Rattle.advice_at_rest.specs.Advices.{next_own, reruns_in}
use Rattle.advice_at_rest.proofs.Obeyed.{DeclinedBy, confirm_obeyed, rerun_obeyed}
use Rattle.advice_at_rest.proofs.Jobs.{Goes, answers_none, goes_still, job_launched, job_plain, job_rerun, reruns_of_other}
use Rattle.advice_at_rest.proofs.Over.{confirm_mends}

module _ (jobs n w : ℕ) (orders : ℕ → List Body) (M : List Body) (k : ℕ) (L : List Body) where
  abbrev Waits : List Body → ℕ
  Waits events = sum_over (λ a. sum_over reruns_in (drop (answered a events) (orders a))) (below n)

  abbrev Each : List Body → ℕ
  Each events = sum_over (advices_of w (orders w) (take k M) events) (below jobs)

  waits_less : (b : Body) (a : ℕ)
      → sum_over reruns_in (drop (answered a (L ++ b ∷ [])) (orders a)) ≤ sum_over reruns_in (drop (answered a L) (orders a))
  waits_less b a =
      drop_low reruns_in (answered a (L ++ b ∷ [])) (answered a L) (orders a) (omega (arith, answered-append a L (b ∷ [])))

  waits_low : (b : Body) → Waits (L ++ b ∷ []) ≤ Waits L
  waits_low b =
      sum_over_low (λ a. sum_over reruns_in (drop (answered a (L ++ b ∷ [])) (orders a)))
      (λ a. sum_over reruns_in (drop (answered a L) (orders a))) (below n) (waits_less b)

  -- an answer to an order to rerun
  waits_fall : (b : Body) (a i : ℕ) → a < n → answers_to a b ≡ true
      → slice_get (orders a) (answered a L) ≡ Some (Order (Rerun i)) → Waits (L ++ b ∷ []) + 1 ≤ Waits L
  waits_fall b a i low answers e =
      sum_over_falls (λ a. sum_over reruns_in (drop (answered a (L ++ b ∷ [])) (orders a)))
      (λ a. sum_over reruns_in (drop (answered a L) (orders a))) 1 n a (waits_less b) low
      (subst (λ (m : ℕ). sum_over reruns_in (drop m (orders a)) + 1 ≤ sum_over reruns_in (drop (answered a L) (orders a))) (sym one)
      (drop_next reruns_in (answered a L) (orders a) (Order (Rerun i)) e))
    where
      one : answered a (L ++ b ∷ []) ≡ 1 + answered a L
      one = omega (arith, answered-append a L (b ∷ []), answered_one a b answers)

  pub low_plain : (b : Body) → ((j : ℕ) → is_launch_of j b ≡ false) → ((j : ℕ) → reruns j (b ∷ []) ≡ 0)
      → ((j : ℕ) → Goes w (orders w) (take k M) L j b)
      → advices_at jobs n w orders M k (L ++ b ∷ []) ≤ advices_at jobs n w orders M k L
  unfolding advices_at
  low_plain b no_launch no_rerun goes =
      omega (
        arith,
        waits_low b,
        sum_over_low (advices_of w (orders w) (take k M) (L ++ b ∷ [])) (advices_of w (orders w) (take k M) L) (below jobs)
            (λ j. job_plain w (orders w) (take k M) L j b (no_launch j) (no_rerun j) (goes j)),
      )

  -- an event that launches nothing, obeys nothing and answers nothing of its own
  pub low_still : (b : Body) → ((j : ℕ) → is_launch_of j b ≡ false) → obeyed_command b ≡ None → answers_to w b ≡ false
      → advices_at jobs n w orders M k (L ++ b ∷ []) ≤ advices_at jobs n w orders M k L
  low_still b no_launch no_command no_answer =
      low_plain b no_launch (λ j. reruns_none j b no_command)
      (λ j. goes_still w (orders w) (take k M) L j b (answers_none w b no_answer))

  pub low_launched : (j m : ℕ) (seen : Seen) → launches j L ≤ reruns j L
      → advices_at jobs n w orders M k (L ++ Launched j m seen ∷ []) ≤ advices_at jobs n w orders M k L
  unfolding advices_at
  low_launched j m seen due =
      omega (
        arith,
        waits_low (Launched j m seen),
        sum_over_low (advices_of w (orders w) (take k M) (L ++ Launched j m seen ∷ [])) (advices_of w (orders w) (take k M) L)
            (below jobs) each,
      )
    where
      each : (i : ℕ) → advices_of w (orders w) (take k M) (L ++ Launched j m seen ∷ []) i ≤ advices_of w (orders w) (take k M) L i
      each i =
          elim (eqb_tells i j) [
            | inl e ↦ subst (λ (i : ℕ). advices_of w (orders w) (take k M) (L ++ Launched j m seen ∷ []) i
                ≤ advices_of w (orders w) (take k M) L i) (sym e.1) (job_launched w (orders w) (take k M) L j m seen due)
            | inr e ↦ job_plain w (orders w) (take k M) L i (Launched j m seen) e.0 (reruns_none i (Launched j m seen) refl)
                (goes_still w (orders w) (take k M) L i (Launched j m seen) (answers_none w (Launched j m seen) refl))
          ]

  -- the next order of its own is about a job where it takes up its bad end
  next_there : (a : ℕ) (c : Cmd) → a ≡ w → slice_get (orders a) (answered a L) ≡ Some (Order c) → next_own w (orders w) L ≡ Some c
  next_there a c same e =
      ap (option_and_then ordered_command)
      (subst (λ (u : ℕ). slice_get (orders u) (answered u L) ≡ Some (Order c)) same e)

  about_it : (j a : ℕ) (c : Cmd) → a ≡ w → slice_get (orders a) (answered a L) ≡ Some (Order c)
      → is_taken_up w (orders w) (take k M) j L ≡ true → is_about j (Some c) ≡ true
  about_it j a c same e h =
      subst (λ (o : Option Cmd). is_about j o ≡ true) (next_there a c same e)
      (and_left (is_about j (next_own w (orders w) L)) (is_own_member (take k M) w j) h)

  -- an answer to another workstation leaves the next order of its own
  other_goes : (j a : ℕ) (b : Body) → (eqb w a ≡ answers_to w b) → eqb w a ≡ false → Goes w (orders w) (take k M) L j b
  other_goes j a b same other = goes_still w (orders w) (take k M) L j b (answers_none w b (sym same ∙ other))

  answer_goes : (j a : ℕ) (b : Body) (c : Cmd) → eqb w a ≡ answers_to w b → slice_get (orders a) (answered a L) ≡ Some (Order c)
      → (is_about j (Some c) ≡ true → Goes w (orders w) (take k M) L j b) → Goes w (orders w) (take k M) L j b
  answer_goes j a b c same e about over taken later =
      elim (eqb_tells w a) [
        | inl f ↦ about (about_it j a c (sym f.1) e taken) over taken later
        | inr f ↦ other_goes j a b same f.0 over taken later
      ]

  low_rerun : (a m i : ℕ) → a < n → slice_get (orders a) (answered a L) ≡ Some (Order (Rerun i))
      → advices_at jobs n w orders M k (L ++ Obeyed a m (Rerun i) ∷ []) ≤ advices_at jobs n w orders M k L
  unfolding advices_at
  low_rerun a m i low e =
      omega (
        arith,
        waits_fall (Obeyed a m (Rerun i)) a i low (eq-eqb a a refl) e,
        sum_over_more (advices_of w (orders w) (take k M) (L ++ Obeyed a m (Rerun i) ∷ [])) (advices_of w (orders w) (take k M) L)
            (λ j. done (eqb j i)) (below jobs) each,
        hits i 0 jobs,
      )
    where
      each : (j : ℕ)
          → advices_of w (orders w) (take k M) (L ++ Obeyed a m (Rerun i) ∷ []) j
          ≤ advices_of w (orders w) (take k M) L j + done (eqb j i)
      each j =
          elim (eqb_tells j i) [
            | inl f ↦ rw f.0
                (subst (λ (j : ℕ). advices_of w (orders w) (take k M) (L ++ Obeyed a m (Rerun i) ∷ []) j
                ≤ advices_of w (orders w) (take k M) L j + 1) (sym f.1) (job_rerun w (orders w) (take k M) L i a m))
            | inr f ↦ omega (
              arith,
              job_plain w (orders w) (take k M) L j (Obeyed a m (Rerun i)) refl (reruns_of_other j a m (Rerun i) f.0)
                  (answer_goes j a (Obeyed a m (Rerun i)) (Rerun i) refl e
                  (λ about over taken later. absurd (contrary about f.0))),
            )
          ]

  pub low_obeyed : (a m : ℕ) (c : Cmd) → a < n → slice_get (orders a) (answered a L) ≡ Some (Order c)
      → advices_at jobs n w orders M k (L ++ Obeyed a m c ∷ []) ≤ advices_at jobs n w orders M k L
  low_obeyed a m (Rerun i) low e = low_rerun a m i low e
  low_obeyed a m (Confirm i) low e =
      low_plain (Obeyed a m (Confirm i)) (λ j. refl) (λ j. reruns_of_other j a m (Confirm i) refl) (λ j. go j)
    where
      go : (j : ℕ) → Goes w (orders w) (take k M) L j (Obeyed a m (Confirm i))
      go j =
          answer_goes j a (Obeyed a m (Confirm i)) (Confirm i) refl e
          (λ about over taken later. absurd (confirm_mends j L a m
          (subst (λ (u : ℕ). is_over_badly j (L ++ Obeyed a m (Confirm u) ∷ []) ≡ true) (sym (eqb-true j i about)) later)))
  low_obeyed a m c low e =
      low_plain (Obeyed a m c) (λ j. refl) (λ j. reruns_of_other j a m c refl)
      (λ j. answer_goes j a (Obeyed a m c) c refl e (λ about over taken later. absurd (clash about)))
    where
      clash : false ≡ true → ⊥
      clash q = cc

  pub low_added : (a m : ℕ) (draft : StreamDraft) (doc : StreamDoc)
      → slice_get (orders a) (answered a L) ≡ Some (Order (Submit draft))
      → advices_at jobs n w orders M k (L ++ Added a m doc ∷ []) ≤ advices_at jobs n w orders M k L
  low_added a m draft doc e =
      low_plain (Added a m doc) (λ j. refl) (λ j. reruns_none j (Added a m doc) refl)
      (λ j. answer_goes j a (Added a m doc) (Submit draft) refl e (λ about over taken later. absurd (clash about)))
    where
      clash : false ≡ true → ⊥
      clash q = cc

-- an order that is declined was about no job that was over badly
pub low_declined : (net : Net) (jobs n w : ℕ) (orders : ℕ → List Body) (M : List Body) (k : ℕ) (V : View)
    → V (Events 0) ≡ take k M → (a m : ℕ) (why : Why) → DeclinedBy net V w a
    → ((c : Cmd) → next_order V w a ≡ Some c → slice_get (orders a) (answered a (V (Events w))) ≡ Some (Order c))
    → advices_at jobs n w orders M k (V (Events w) ++ Declined a m why ∷ []) ≤ advices_at jobs n w orders M k (V (Events w))
low_declined net jobs n w orders M k V master a m why reason given =
    low_plain jobs n w orders M k (V (Events w)) (Declined a m why) (λ j. refl) (λ j. reruns_none j (Declined a m why) refl)
    (λ j. answer_goes jobs n w orders M k (V (Events w)) j a (Declined a m why) reason.command refl (given reason.command reason.next)
    (λ about over taken later. absurd (never j reason.command refl about over
    (subst (λ (l : List Body). is_own_member l w j ≡ true) (sym master)
    (and_right (is_about j (next_own w (orders w) (V (Events w)))) (is_own_member (take k M) w j) taken)))))
  where
    obeyed : (c : Cmd) → reason.command ≡ c → verdict net V w c ≡ None → ⊥
    obeyed c is none =
        none_some (sym (subst (λ (d : Cmd). verdict net V w d ≡ None) (sym is) none) ∙ reason.reason)

    never : (j : ℕ) (c : Cmd) → reason.command ≡ c → is_about j (Some c) ≡ true → is_over_badly j (V (Events w)) ≡ true
        → is_own_member (V (Events 0)) w j ≡ true → ⊥
    never j (Confirm i) is about over mine =
        obeyed (Confirm i) is
        (subst (λ (u : ℕ). verdict net V w (Confirm u) ≡ None) (eqb-true j i about) (confirm_obeyed V w j mine net over))
    never j (Rerun i) is about over mine =
        obeyed (Rerun i) is
        (subst (λ (u : ℕ). verdict net V w (Rerun u) ≡ None) (eqb-true j i about) (rerun_obeyed V w j mine net over))
    never j c is about over mine = clash about
      where
        clash : false ≡ true → ⊥
        clash q = cc
