-- What a job can still have advised, after one more entry of its workstation's own.
use Rattle.std.proofs.Common.{◌≡◌, ℕ, suc, ◌+◌, ◌-◌, ◌*◌, ◌≤◌, Bool, true, false, ◌&&◌, not, List, [], ◌∷◌, ◌++◌, cond}
use Rattle.std.proofs.Common.{refl, ap, arith}
use Rattle.std.proofs.lemmas.Bool.{eq-eqb}
use Rattle.std.specs.Prelude.{◌==◌, option_and_then, slice_get}
use Rattle.lemmas.proofs.Numbers.{suc_not_zero}
use Rattle.model.specs.Types.{Body, Cmd, Launched, Obeyed, Rerun}
use Rattle.model.specs.History.{Seen}
use Rattle.model.specs.Facts.{answered, answers_to, commands, is_launch_of, is_open, is_rerun_of, launches, reruns}
use Rattle.model.specs.Turn.{ordered_command}
use Rattle.model_laws.proofs.Answered.{answered-append}
use Rattle.model_laws.proofs.Growth.{launches-append}
use Rattle.model_laws.proofs.Starts.{launches_one}
use Rattle.model_laws.proofs.Tidy.{launches_none}
use Rattle.rest_laws.specs.Left.{done}
use Rattle.rest_laws.proofs.Bounds.{times_low}
use Rattle.rest_laws.proofs.Falls.{reruns_more, reruns_none}
use Rattle.advice_at_rest.specs.Advices.{advices_of, is_over_badly, is_taken_up, next_own, weight}
use Rattle.advice_at_rest.proofs.Over.{none_due, one_of_both, open_or_over, opens_none}

-- an own order that takes up a bad end goes on doing so while it stays a bad end
waiting : (o p : ℕ) (v u t s : Bool) → p ≤ o → p + done u ≤ o + done v → (v ≡ true → t ≡ true → u ≡ true → s ≡ true)
    → p + done (u && not s) ≤ o + done (v && not t)
waiting o p v false t s low both side = omega (arith, low)
waiting o p v true t true low both side = omega (arith, low)
waiting o p true true true false low both side = absurd (clash (side refl refl refl))
  where
    clash : false ≡ true → ⊥
    clash k = cc
waiting o p true true false false low both side = omega (arith, both)
waiting o p false true t false low both side = omega (arith, both)

and_low : (u s : Bool) → done (u && s) ≤ done u
and_low true true = omega arith
and_low true false = omega arith
and_low false s = omega arith

pub at_least : (r m : ℕ) → m ≤ weight r * m
at_least r m = go (r == 0)
  where
    go : (b : Bool) → m ≤ cond b 2 1 * m
    go true = omega arith
    go false = omega arith

suc_weight : (r : ℕ) → weight (r + 1) ≡ 1
suc_weight r =
    let same : r + 1 ≡ suc r = omega arith in
    rw (same, suc_not_zero r) refl

pub reruns_of_other : (j a k : ℕ) (c : Cmd) → is_rerun_of j c ≡ false → reruns j (Obeyed a k c ∷ []) ≡ 0
unfolding reruns commands
reruns_of_other j a k c h = rw h refl

reruns_of_itself : (j a k i : ℕ) → j ≡ i → reruns j (Obeyed a k (Rerun i) ∷ []) ≡ 1
unfolding reruns commands
reruns_of_itself j a k i same = rw (eq-eqb j i same) refl

pub answers_none : (a : ℕ) (b : Body) → answers_to a b ≡ false → answered a (b ∷ []) ≡ 0
unfolding answered
answers_none a b h = rw h refl

-- with what w gave itself, and what it holds of the master's events
module _ (w : ℕ) (own master L : List Body) (j : ℕ) where
  abbrev pub Goes : Body → Type 0
  Goes b =
      is_over_badly j L ≡ true → is_taken_up w own master j L ≡ true → is_over_badly j (L ++ b ∷ []) ≡ true
      → is_taken_up w own master j (L ++ b ∷ []) ≡ true

  pub job_plain : (b : Body) → is_launch_of j b ≡ false → reruns j (b ∷ []) ≡ 0 → Goes b
      → advices_of w own master (L ++ b ∷ []) j ≤ advices_of w own master L j
  unfolding advices_of
  job_plain b no_launch no_rerun goes =
      rw (same_reruns, same_launches)
      (times_low (weight (reruns j L))
      ((1 + reruns j L - launches j L)
      + (done (is_open j (L ++ b ∷ []))
      + done (is_over_badly j (L ++ b ∷ []) && not (is_taken_up w own master j (L ++ b ∷ [])))))
      ((1 + reruns j L - launches j L)
      + (done (is_open j L) + done (is_over_badly j L && not (is_taken_up w own master j L))))
      (omega (
        arith,
        waiting (done (is_open j L)) (done (is_open j (L ++ b ∷ []))) (is_over_badly j L) (is_over_badly j (L ++ b ∷ []))
            (is_taken_up w own master j L) (is_taken_up w own master j (L ++ b ∷ [])) (opens_none j L b no_launch)
            (open_or_over j L b no_launch) goes,
      )))
    where
      same_reruns : reruns j (L ++ b ∷ []) ≡ reruns j L
      same_reruns = omega (arith, reruns_more j L b, no_rerun)

      same_launches : launches j (L ++ b ∷ []) ≡ launches j L
      same_launches = omega (arith, launches-append j L (b ∷ []), launches_none j b no_launch)

  pub job_launched : (n : ℕ) (seen : Seen) → launches j L ≤ reruns j L
      → advices_of w own master (L ++ Launched j n seen ∷ []) j ≤ advices_of w own master L j
  unfolding advices_of
  job_launched n seen due =
      rw (same_reruns, one_more)
      (times_low (weight (reruns j L))
      ((1 + reruns j L - (launches j L + 1))
      + (done (is_open j (L ++ Launched j n seen ∷ []))
      + done (is_over_badly j (L ++ Launched j n seen ∷ []) && not (is_taken_up w own master j (L ++ Launched j n seen ∷ [])))))
      ((1 + reruns j L - launches j L)
      + (done (is_open j L) + done (is_over_badly j L && not (is_taken_up w own master j L))))
      (omega (
        arith,
        due,
        one_of_both j (L ++ Launched j n seen ∷ []),
        and_low (is_over_badly j (L ++ Launched j n seen ∷ [])) (not (is_taken_up w own master j (L ++ Launched j n seen ∷ []))),
      )))
    where
      same_reruns : reruns j (L ++ Launched j n seen ∷ []) ≡ reruns j L
      same_reruns = omega (arith, reruns_more j L (Launched j n seen), reruns_none j (Launched j n seen) refl)

      one_more : launches j (L ++ Launched j n seen ∷ []) ≡ launches j L + 1
      one_more = omega (arith, launches-append j L (Launched j n seen ∷ []), launches_one j n seen)

  -- a rerun that is obeyed
  abbrev again : ℕ → ℕ → List Body
  again a k = L ++ Obeyed a k (Rerun j) ∷ []

  reruns_again : (a k : ℕ) → reruns j (again a k) ≡ reruns j L + 1
  reruns_again a k = omega (arith, reruns_more j L (Obeyed a k (Rerun j)), reruns_of_itself j a k j refl)

  launches_again : (a k : ℕ) → launches j (again a k) ≡ launches j L
  launches_again a k =
      omega (arith, launches-append j L (Obeyed a k (Rerun j) ∷ []), launches_none j (Obeyed a k (Rerun j)) refl)

  low_again : (a k : ℕ) (v : Bool) → is_over_badly j (again a k) ≡ v
      → (1 + (reruns j L + 1) - launches j L) + (done (is_open j (again a k)) + done (is_over_badly j (again a k)))
      ≤ (1 + reruns j L - launches j L) + (done (is_open j L) + 1)
  low_again a k true e =
      rw e
      (omega (
        arith,
        none_due j (again a k) e,
        reruns_again a k,
        launches_again a k,
        opens_none j L (Obeyed a k (Rerun j)) refl,
      ))
  low_again a k false e = rw e (omega (arith, opens_none j L (Obeyed a k (Rerun j)) refl))

  pub job_rerun : (a k : ℕ)
      → advices_of w own master (L ++ Obeyed a k (Rerun j) ∷ []) j ≤ advices_of w own master L j + 1
  unfolding advices_of
  job_rerun a k =
      rw (reruns_again a k, launches_again a k, suc_weight (reruns j L))
      (omega (
        arith,
        low_again a k (is_over_badly j (again a k)) refl,
        and_low (is_over_badly j (again a k)) (not (is_taken_up w own master j (again a k))),
        at_least (reruns j L)
            ((1 + reruns j L - launches j L)
            + (done (is_open j L) + done (is_over_badly j L && not (is_taken_up w own master j L)))),
      ))

-- the next own order stays where none is answered
pub next_stays : (w : ℕ) (own L : List Body) (b : Body) → answered w (b ∷ []) ≡ 0
    → next_own w own (L ++ b ∷ []) ≡ next_own w own L
next_stays w own L b none =
    ap (λ (n : ℕ). option_and_then ordered_command (slice_get own n)) same
  where
    same : answered w (L ++ b ∷ []) ≡ answered w L
    same = omega (arith, answered-append w L (b ∷ []), none)

pub goes_still : (w : ℕ) (own master L : List Body) (j : ℕ) (b : Body) → answered w (b ∷ []) ≡ 0 → Goes w own master L j b
goes_still w own master L j b none over taken later =
    rw (next_stays w own L b none) taken
