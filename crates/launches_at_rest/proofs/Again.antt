-- Whatever has been told, turns still have room, and so the network comes to rest again.
use Rattle.std.proofs.Common.{◌≡◌, ℕ, ◌+◌, ◌<◌, true, List, [], ◌∷◌, ◌++◌, refl, ap, subst, ◌∙◌, arith}
use Rattle.std.specs.List.{AllByRecursion}
use Rattle.model.specs.Types.{Net, WorldStep}
use Rattle.model.specs.Network.{IsTree}
use Rattle.model.specs.FreeSteps.{free_run, free_step}
use Rattle.model.specs.Invariant.{Invariant}
use Rattle.model.specs.World.{World, empty_world, or_as_before}
use Rattle.model_laws.proofs.FreeRuns.{free_always}
use Rattle.model_laws.proofs.Keeps.{at_start}
use Rattle.rest_laws.specs.Left.{caps_of, entries, left}
use Rattle.rest_laws.specs.Rounds.{AreTaken}
use Rattle.rest_laws.specs.Short.{are_answers_short}
use Rattle.rest_laws.specs.ToRest.{AlwaysHasRoom, AreAmong, ComesToRest, names_inside}
use Rattle.rest_laws.proofs.Bounds.{covered}
use Rattle.rest_laws.proofs.Gains.{kept_run}
use Rattle.rest_laws.proofs.Lasting.{lasting}
use Rattle.rest_laws.proofs.Lefts.{Keeps, steps_keep}
use Rattle.rest_laws.proofs.Named.{named_free}
use Rattle.rest_laws.proofs.Shorts.{always_short}
use Rattle.rest_laws.proofs.Room.{events_within, has_place}
use Rattle.launches_at_rest.specs.Tells.{tells_left}
use Rattle.launches_at_rest.specs.Told.{works_at}
use Rattle.launches_at_rest.proofs.Keeping.{WorkKeeps, steps_work}
use Rattle.launches_at_rest.proofs.Short.{works_short}

-- steps that are taken are a run
module _ (net : Net) where
  run_of : (steps : List WorldStep) (x y : World) → AreTaken net x steps y → free_run net steps x ≡ y
  unfolding free_run
  run_of [] x y taken = taken
  run_of (s ∷ steps) x y taken =
      ap (λ r. free_run net steps (or_as_before x r)) taken.1 ∙ run_of steps taken.0 y taken.2

  run_on : (first steps : List WorldStep) (x : World) → free_run net (first ++ steps) x ≡ free_run net steps (free_run net first x)
  unfolding free_run
  run_on [] steps x = refl
  run_on (s ∷ first) steps x = run_on first steps (or_as_before x (free_step net x s))

module _ (net : Net) (readings : ℕ → List ℕ) (x y : World) (steps : List WorldStep) (inv : Invariant net x)
    (names : names_inside net y ≡ true) (short : are_answers_short net x ≡ true)
    (few : entries net x + (left net (caps_of net x) readings x + tells_left net (caps_of net x) x) < 4294967295)
    (keep : AllByRecursion (λ s. works_at readings s ≡ true) steps) (taken : AreTaken net x steps y) where
  here : Invariant net y
  here = kept_run net steps x y inv taken

  worked : WorkKeeps net (caps_of net x) readings x y
  worked = steps_work net (caps_of net x) readings steps x y inv (covered net x) keep taken

  room_again : AlwaysHasRoom net readings y
  room_again z h w t w_in among =
      let later : Keeps net (caps_of net x) readings y z =
      steps_keep net (caps_of net x) readings h.steps y z here worked.covers h.keep h.taken in
      record {
        place = has_place net z w t (omega (arith, events_within net z w w_in, later.bound, worked.bound, few));
        length_ = always_short net readings y here names (works_short net readings steps x y short keep taken) z h w t w_in among;
      }

  pub rests_again : (clocks : ℕ → ℕ → ℕ) → IsTree net → ((k : ℕ) → AreAmong readings (clocks k)) → ComesToRest net readings clocks y
  rests_again clocks tree among = lasting net readings clocks y tree here names room_again among

pub again : (net : Net) (readings : ℕ → List ℕ) (clocks : ℕ → ℕ → ℕ) (first steps : List WorldStep) (y : World) → IsTree net
    → are_answers_short net (free_run net first empty_world) ≡ true
    → entries net (free_run net first empty_world)
    + (left net (caps_of net (free_run net first empty_world)) readings (free_run net first empty_world)
    + tells_left net (caps_of net (free_run net first empty_world)) (free_run net first empty_world)) < 4294967295
    → AllByRecursion (λ s. works_at readings s ≡ true) steps → AreTaken net (free_run net first empty_world) steps y
    → ((k : ℕ) → AreAmong readings (clocks k)) → ComesToRest net readings clocks y
again net readings clocks first steps y tree short few keep taken among =
    rests_again net readings (free_run net first empty_world) y steps (free_always net first empty_world (at_start net)) names short few
    keep taken clocks tree among
  where
    names : names_inside net y ≡ true
    names =
        subst (λ (z : World). names_inside net z ≡ true)
        (run_on net first steps empty_world ∙ run_of net steps (free_run net first empty_world) y taken)
        (named_free net (first ++ steps))
