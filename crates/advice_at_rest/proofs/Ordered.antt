-- What a workstation can still advise itself, after an order that it advised.
use Rattle.std.proofs.Common.{◌≡◌, ◌≢◌, ℕ, zero, suc, ◌+◌, ◌-◌, ◌*◌, ◌<◌, ◌≤◌, Bool, true, false, ◌&&◌, not, ◌⊎◌, inl, inr, List, [], ◌∷◌, ◌++◌}
use Rattle.std.proofs.Common.{drop, take, length, refl, ap, sym, subst, ◌∙◌, arith, Option, Some, None}
use Rattle.std.proofs.lemmas.Bool.{eq-eqb}
use Rattle.std.proofs.lemmas.Bool.Decides.{eqb_tells}
use Rattle.std.specs.Prelude.{eqb, option_and_then, slice_get}
use Rattle.lemmas.proofs.Booleans.{and_made}
use Rattle.lemmas.proofs.Lists.{drop_at_end, found_within, get_last}
use Rattle.model.specs.Types.{Body, Cmd, Confirm, Order, Rerun}
use Rattle.model.specs.Words.{below}
use Rattle.model.specs.Facts.{answered, is_open, launches, reruns}
use Rattle.model.specs.Turn.{ordered_command}
use Rattle.rest_laws.specs.Gains.{sum_over}
use Rattle.rest_laws.specs.Left.{done}
use Rattle.rest_laws.proofs.Bounds.{times_low}
use Rattle.rest_laws.proofs.Falls.{hits, sum_over_falls}
use Rattle.rest_laws.proofs.Gains.{sum_over_low}
use Rattle.rest_laws.proofs.Lefts.{sum_over_append, sum_over_more}
use Rattle.advice_at_rest.specs.Advices.{advices_at, advices_of, is_about, is_over_badly, is_own_member, is_taken_up, next_own}
use Rattle.advice_at_rest.specs.Advices.{reruns_in, weight}
use Rattle.advice_at_rest.proofs.Jobs.{at_least}

-- one more at the end
pub drop_push : (f : Body → ℕ) (m : ℕ) (xs : List Body) (b : Body)
    → sum_over f (drop m (xs ++ b ∷ [])) ≤ sum_over f (drop m xs) + f b
drop_push f zero [] b = omega arith
drop_push f zero (x ∷ xs) b = omega (arith, sum_over_append f xs (b ∷ []))
drop_push f (suc m) [] b = rw (drop_at_end {X = Body} [] m (omega arith)) (omega arith)
drop_push f (suc m) (x ∷ xs) b = drop_push f m xs b

nothing_behind : (xs : List Body) (m : ℕ) → length xs ≤ m → slice_get xs m ≡ None
nothing_behind xs m low = go (slice_get xs m) refl
  where
    go : (o : Option Body) → slice_get xs m ≡ o → slice_get xs m ≡ None
    go None e = e
    go (Some b) e = absurd (omega (arith, low, found_within xs m b e))

module _ (jobs n w : ℕ) (orders later : ℕ → List Body) (M : List Body) (k : ℕ) (L : List Body) (c : Cmd)
    (here : later w ≡ orders w ++ Order c ∷ []) (there : (a : ℕ) → a ≢ w → later a ≡ orders a)
    (none : answered w L ≡ length (orders w)) where
  -- no own order waited, and now this one does
  before : next_own w (orders w) L ≡ None
  before =
      ap (option_and_then ordered_command)
      (nothing_behind (orders w) (answered w L) (omega (arith, none)))

  behind : next_own w (later w) L ≡ Some c
  behind =
      ap (λ (l : List Body). option_and_then ordered_command (slice_get l (answered w L))) here
      ∙ ap (λ (m : ℕ). option_and_then ordered_command (slice_get (orders w ++ Order c ∷ []) m)) none
      ∙ ap (option_and_then ordered_command) (get_last (orders w) (Order c))

  not_before : (i : ℕ) → is_taken_up w (orders w) (take k M) i L ≡ false
  not_before i = rw before refl

  any_less : (v t : Bool) → done (v && not t) ≤ done (v && not false)
  any_less true true = omega arith
  any_less true false = omega arith
  any_less false t = omega arith

  job_low : (i : ℕ) → advices_of w (later w) (take k M) L i ≤ advices_of w (orders w) (take k M) L i
  unfolding advices_of
  job_low i =
      rw (not_before i)
      (times_low (weight (reruns i L))
      ((1 + reruns i L - launches i L)
      + (done (is_open i L) + done (is_over_badly i L && not (is_taken_up w (later w) (take k M) i L))))
      ((1 + reruns i L - launches i L) + (done (is_open i L) + done (is_over_badly i L && not false)))
      (omega (arith, any_less (is_over_badly i L) (is_taken_up w (later w) (take k M) i L))))

  module _ (j : ℕ) (over : is_over_badly j L ≡ true) (mine : is_own_member (take k M) w j ≡ true)
      (about : is_about j (Some c) ≡ true) where
    taken_now : is_taken_up w (later w) (take k M) j L ≡ true
    taken_now =
        and_made (is_about j (next_own w (later w) L)) (is_own_member (take k M) w j)
        (subst (λ (o : Option Cmd). is_about j o ≡ true) (sym behind) about) mine

    spread : (r d o : ℕ) → weight r * (d + (o + 0)) + weight r ≤ weight r * (d + (o + 1))
    spread r d o = go (weight r)
      where
        go : (m : ℕ) → m * (d + (o + 0)) + m ≤ m * (d + (o + 1))
        go m = grind arith

    job_falls : advices_of w (later w) (take k M) L j + weight (reruns j L) ≤ advices_of w (orders w) (take k M) L j
    unfolding advices_of
    job_falls =
        rw (not_before j, taken_now, over)
        (spread (reruns j L) (1 + reruns j L - launches j L) (done (is_open j L)))

    jobs_fall : j < jobs
        → sum_over (advices_of w (later w) (take k M) L) (below jobs) + weight (reruns j L)
        ≤ sum_over (advices_of w (orders w) (take k M) L) (below jobs)
    jobs_fall low =
        sum_over_falls (advices_of w (later w) (take k M) L) (advices_of w (orders w) (take k M) L) (weight (reruns j L)) jobs j
        job_low low job_falls

  abbrev Waits : (ℕ → List Body) → ℕ
  Waits o = sum_over (λ a. sum_over reruns_in (drop (answered a L) (o a))) (below n)

  waits_at : (a : ℕ)
      → sum_over reruns_in (drop (answered a L) (later a))
      ≤ sum_over reruns_in (drop (answered a L) (orders a)) + reruns_in (Order c) * done (eqb a w)
  waits_at a =
      elim (eqb_tells a w) [
        | inl e ↦ rw e.0
            (subst (λ (a : ℕ). sum_over reruns_in (drop (answered a L) (later a))
            ≤ sum_over reruns_in (drop (answered a L) (orders a)) + reruns_in (Order c) * 1) (sym e.1) at_w)
        | inr e ↦ rw (e.0, there a e.1) (omega arith)
      ]
    where
      at_w : sum_over reruns_in (drop (answered w L) (later w))
          ≤ sum_over reruns_in (drop (answered w L) (orders w)) + reruns_in (Order c) * 1
      at_w =
          rw here
          (let k : sum_over reruns_in (drop (answered w L) (orders w ++ Order c ∷ []))
          ≤ sum_over reruns_in (drop (answered w L) (orders w)) + reruns_in (Order c) =
          drop_push reruns_in (answered w L) (orders w) (Order c) in
          grind (arith, k))

  confirm_waits : (j : ℕ) → c ≡ Confirm j → Waits later ≤ Waits orders
  confirm_waits j is =
      sum_over_low (λ a. sum_over reruns_in (drop (answered a L) (later a)))
      (λ a. sum_over reruns_in (drop (answered a L) (orders a))) (below n)
      (λ a. subst (λ (d : Cmd). sum_over reruns_in (drop (answered a L) (later a))
      ≤ sum_over reruns_in (drop (answered a L) (orders a)) + reruns_in (Order d) * done (eqb a w) → sum_over reruns_in (drop (answered a L) (later a))
      ≤ sum_over reruns_in (drop (answered a L) (orders a))) (sym is) (λ h. omega (arith, h)) (waits_at a))

  rerun_waits : (j : ℕ) → c ≡ Rerun j → Waits later ≤ Waits orders + 1
  rerun_waits j is =
      omega (
        arith,
        sum_over_more (λ a. sum_over reruns_in (drop (answered a L) (later a)))
            (λ a. sum_over reruns_in (drop (answered a L) (orders a))) (λ a. done (eqb a w)) (below n)
            (λ a. subst (λ (d : Cmd). sum_over reruns_in (drop (answered a L) (later a))
            ≤ sum_over reruns_in (drop (answered a L) (orders a)) + reruns_in (Order d) * done (eqb a w)
            → sum_over reruns_in (drop (answered a L) (later a))
            ≤ sum_over reruns_in (drop (answered a L) (orders a)) + done (eqb a w)) (sym is) (λ h. omega (arith, h)) (waits_at a)),
        hits w 0 n,
      )

  pub advised_falls : (j : ℕ) → j < jobs → (c ≡ Confirm j) ⊎ ((c ≡ Rerun j) × (reruns j L ≡ 0)) → is_over_badly j L ≡ true
      → is_own_member (take k M) w j ≡ true → advices_at jobs n w later M k L + 1 ≤ advices_at jobs n w orders M k L
  unfolding advices_at
  advised_falls j low (inl is) over mine =
      omega (
        arith,
        jobs_fall j over mine (subst (λ (d : Cmd). is_about j (Some d) ≡ true) (sym is) (eq-eqb j j refl)) low,
        at_least (reruns j L) 1,
        confirm_waits j is,
      )
  advised_falls j low (inr is) over mine =
      omega (
        arith,
        jobs_fall j over mine (subst (λ (d : Cmd). is_about j (Some d) ≡ true) (sym is.0) (eq-eqb j j refl)) low,
        ap weight is.1,
        rerun_waits j is.0,
      )
