-- A round in which something is told gains; one in which nothing is told is an open round of turns and deliveries.
use Rattle.std.proofs.Common.{◌≡◌, ℕ, ◌+◌, ◌<◌, ◌≤◌, true, ◌⊎◌, inl, inr, List, [], ◌∷◌, ◌++◌, map, refl, sym, subst, arith}
use Rattle.std.specs.List.{AllByRecursion}
use Rattle.std.specs.Prelude.{Ok, flat_map}
use Rattle.lemmas.proofs.Booleans.{or_cases, or_made_left}
use Rattle.lemmas.proofs.Lists.{all_such}
use Rattle.model.specs.Types.{Deliver, Events, Feed, Linked, Net, Orders, Take, Turn, WorldStep}
use Rattle.model.specs.Words.{below}
use Rattle.model.specs.Network.{IsTree, node_count}
use Rattle.model.specs.Forwarding.{feeds}
use Rattle.model.specs.FreeSteps.{free_step}
use Rattle.model.specs.Invariant.{Invariant}
use Rattle.model.specs.World.{World}
use Rattle.rest_laws.specs.Gains.{gained, gained_at, sum_over}
use Rattle.rest_laws.specs.Left.{keeps_to}
use Rattle.rest_laws.specs.Rest.{IsAtRest}
use Rattle.rest_laws.specs.Rounds.{AreLinked, AreTaken, IsOpenRound, is_of_round}
use Rattle.rest_laws.proofs.Busy.{gained_more, links_rise}
use Rattle.rest_laws.proofs.Falls.{sum_over_falls}
use Rattle.rest_laws.proofs.Gains.{gains, sum_over_low}
use Rattle.rest_laws.proofs.Lefts.{sum_over_append, sum_over_map}
use Rattle.rest_laws.proofs.Rises.{Rises, rises_on, rises_self, step_moves}
use Rattle.rest_laws.proofs.Rounds.{taken_append}
use Rattle.launches_at_rest.specs.Told.{IsWorkingRound, is_of_work, is_told, works_at}
use Rattle.launches_at_rest.proofs.Telling.{ToldBy, told_by}

module _ (net : Net) where
  -- where w holds more of its own events, and nobody less, more is gained
  pub own_gains : (x z : World) (w : ℕ) → w < node_count net → Rises x z
      → x.holdings w (Events w) < z.holdings w (Events w) → gained net x < gained net z
  unfolding gained feeds
  own_gains x z w w_in rises held =
      omega (
        arith,
        sum_over_append (share x) (map Events (below (node_count net))) others,
        sum_over_append (share z) (map Events (below (node_count net))) others,
        sum_over_map (share x) Events (below (node_count net)),
        sum_over_map (share z) Events (below (node_count net)),
        sum_over_falls (λ v. share x (Events v)) (λ v. share z (Events v)) 1 (node_count net) w (λ v. share_low (Events v)) w_in
            here,
        sum_over_low (share x) (share z) others share_low,
      )
    where
      others : List Feed
      others = flat_map (λ a. map (Orders a) (below (node_count net))) (below (node_count net))

      share : World → Feed → ℕ
      share y f = sum_over (gained_at net y f) (below (node_count net))

      at_low : (f : Feed) (v : ℕ) → gained_at net x f v ≤ gained_at net z f v
      at_low f v =
          omega (
            arith,
            rises.held v f,
            sum_over_low (λ m. (x.sessions v).acked m f) (λ m. (z.sessions v).acked m f) (below (node_count net))
                (λ m. rises.acked v m f),
          )

      share_low : (f : Feed) → share x f ≤ share z f
      share_low f = sum_over_low (gained_at net x f) (gained_at net z f) (below (node_count net)) (at_low f)

      one_more : gained_at net x (Events w) w + 1 ≤ gained_at net z (Events w) w
      one_more =
          omega (
            arith,
            held,
            sum_over_low (λ m. (x.sessions w).acked m (Events w)) (λ m. (z.sessions w).acked m (Events w))
                (below (node_count net)) (λ m. rises.acked w m (Events w)),
          )

      here : share x (Events w) + 1 ≤ share z (Events w)
      here =
          sum_over_falls (gained_at net x (Events w)) (gained_at net z (Events w)) 1 (node_count net) w (at_low (Events w)) w_in
          one_more

  told_gains : (x z : World) → ToldBy net x z → gained net x < gained net z
  told_gains x z t =
      own_gains x z t.ws t.told.makes_.inside t.told.makes_.rises (omega (arith, t.told.makes_.held))

  pub work_rises : (x z : World) (s : WorldStep) → is_of_work s ≡ true → free_step net x s ≡ Ok z → Rises x z
  work_rises x z s h e =
      elim (or_cases (is_of_round s) (is_told s) h) [
        | inl k ↦ (step_moves net x z s k e).rises
        | inr k ↦ (told_by net x z s k e).told.makes_.rises
      ]

  old_rises : (readings : ℕ → List ℕ) (x z : World) (s : WorldStep) → keeps_to readings s ≡ true → free_step net x s ≡ Ok z
      → Rises x z
  old_rises readings x z (Take w (Turn t)) h e = (step_moves net x z (Take w (Turn t)) refl e).rises
  old_rises readings x z (Take w (Linked v)) h e = links_rise net (Take w (Linked v) ∷ []) x z (refl, tt) (z, e, refl)
  old_rises readings x z (Deliver a b k) h e = (step_moves net x z (Deliver a b k) refl e).rises
  old_rises readings x z _ h e = cc

  pub kept_rises : (readings : ℕ → List ℕ) (x z : World) (s : WorldStep) → works_at readings s ≡ true → free_step net x s ≡ Ok z
      → Rises x z
  kept_rises readings x z s h e =
      elim (or_cases (keeps_to readings s) (is_told s) h) [
        | inl k ↦ old_rises readings x z s k e
        | inr k ↦ (told_by net x z s k e).told.makes_.rises
      ]

  pub works_rise : (steps : List WorldStep) (x y : World) → AllByRecursion (λ s. is_of_work s ≡ true) steps
      → AreTaken net x steps y → Rises x y
  works_rise [] x y each taken = rises_self x y taken
  works_rise (s ∷ steps) x y each taken =
      rises_on x taken.0 y (work_rises x taken.0 s each.0 taken.1) (works_rise steps taken.0 y each.1 taken.2)

  -- nothing was told, or more is gained
  pub sorted : (steps : List WorldStep) (x y : World) → AllByRecursion (λ s. is_of_work s ≡ true) steps
      → AreTaken net x steps y → AllByRecursion (λ s. is_of_round s ≡ true) steps ⊎ (gained net x < gained net y)
  sorted [] x y each taken = inl tt
  sorted (s ∷ steps) x y each taken =
      elim (or_cases (is_of_round s) (is_told s) each.0) [
        | inl k ↦ later k (sorted steps taken.0 y each.1 taken.2)
        | inr k ↦ inr (omega (
          arith,
          told_gains x taken.0 (told_by net x taken.0 s k taken.1),
          gained_more net taken.0 y (works_rise steps taken.0 y each.1 taken.2),
        ))
      ]
    where
      later : is_of_round s ≡ true
          → AllByRecursion (λ s. is_of_round s ≡ true) steps ⊎ (gained net taken.0 < gained net y)
          → AllByRecursion (λ s. is_of_round s ≡ true) (s ∷ steps) ⊎ (gained net x < gained net y)
      later k (inl all) = inl (k, all)
      later k (inr more) = inr (omega (arith, more, gained_more net x taken.0 (work_rises x taken.0 s each.0 taken.1)))

  pub work_taken : (readings : ℕ → ℕ) (x y : World) (steps : List WorldStep) → IsWorkingRound net readings x steps y
      → AreTaken net x steps y
  work_taken readings x y steps r =
      subst (λ (ss : List WorldStep). AreTaken net x ss y) (sym r.split)
      (taken_append net (r.turning ++ r.arriving) r.answering x r.arrived y
      (taken_append net r.turning r.arriving x r.turned r.arrived r.to_turned r.to_arrived) r.to_end)

  pub work_gains : (readings : ℕ → ℕ) (x y : World) (steps : List WorldStep) → IsTree net → Invariant net x
      → AreLinked net x → IsWorkingRound net readings x steps y
      → (gained net x < gained net y) ⊎ IsAtRest net readings x
  work_gains readings x y steps tree inv linked r =
      elim (sorted steps x y r.each (work_taken readings x y steps r)) [
        | inl all ↦ gains net readings x y steps tree inv linked (open_round all)
        | inr more ↦ inl more
      ]
    where
      open_round : AllByRecursion (λ s. is_of_round s ≡ true) steps → IsOpenRound net readings x steps y
      open_round all = record {
        turning = r.turning;
        turned = r.turned;
        arriving = r.arriving;
        arrived = r.arrived;
        answering = r.answering;
        split = r.split;
        to_turned = r.to_turned;
        to_arrived = r.to_arrived;
        to_end = r.to_end;
        each = all;
        turns = r.turns;
        sent = r.sent;
        answers = r.answers;
      }

  -- an open round of turns and deliveries is one in which nothing is told
  pub open_works : (readings : ℕ → ℕ) (x y : World) (steps : List WorldStep) → IsOpenRound net readings x steps y
      → IsWorkingRound net readings x steps y
  open_works readings x y steps r = record {
    turning = r.turning;
    turned = r.turned;
    arriving = r.arriving;
    arrived = r.arrived;
    answering = r.answering;
    split = r.split;
    to_turned = r.to_turned;
    to_arrived = r.to_arrived;
    to_end = r.to_end;
    each =
        all_such (λ s. is_of_round s ≡ true) (λ s. is_of_work s ≡ true) steps
        (λ s k. or_made_left (is_of_round s) (is_told s) k) r.each;
    turns = r.turns;
    sent = r.sent;
    answers = r.answers;
  }
