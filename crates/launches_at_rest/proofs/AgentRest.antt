-- The agent's network comes to rest again.
use Rattle.std.proofs.Common.{◌≡◌, ℕ, ◌+◌, ◌<◌, true, [], ◌∷◌, refl, arith}
use Rattle.std.specs.List.{AllByRecursion}
use Rattle.std.specs.Prelude.{pos}
use Rattle.model.specs.Types.{Ended, Events, Launched, Released, Started}
use Rattle.model.specs.Everything.{everything}
use Rattle.model.specs.History.{list_of}
use Rattle.rest_laws.specs.AtRest.{pair}
use Rattle.rest_laws.specs.Left.{caps_of, deps_ahead, entries, job_left, jobs_ahead, left, left_of, orders_left, records_left}
use Rattle.rest_laws.specs.Left.{stream_left, streams_ahead}
use Rattle.rest_laws.specs.Rounds.{AreTaken}
use Rattle.rest_laws.specs.Short.{answer_size, are_answers_short}
use Rattle.rest_laws.specs.ToRest.{AreAmong, ComesToRest}
use Rattle.rest_laws.proofs.AtRest.{pair_tree}
use Rattle.launches_at_rest.specs.Tells.{files_left, starts_left, tells_left, tells_of}
use Rattle.launches_at_rest.specs.Told.{works_at}
use Rattle.launches_at_rest.specs.Worked.{free_begun, free_ended, work_clocks, work_orders, work_readings, work_round}
use Rattle.launches_at_rest.proofs.AgentRound.{are_ok, is_ok, ok_taken}
use Rattle.launches_at_rest.proofs.Again.{again}

pub begun_short : are_answers_short pair free_begun ≡ true
unfolding everything free_begun are_answers_short answer_size
begun_short = refl

pub begun_few : entries pair free_begun
    + (left pair (caps_of pair free_begun) work_readings free_begun + tells_left pair (caps_of pair free_begun) free_begun)
    < 4294967295
unfolding everything free_begun caps_of deps_ahead streams_ahead jobs_ahead entries left left_of stream_left job_left
    orders_left records_left tells_left tells_of starts_left files_left
begun_few = omega arith

pub told_then : list_of free_ended.history (Events 1)
    ≡ Released 1 ((0, 1) ∷ []) ∷ Launched 1 1 ((0, 1) ∷ (1, 1) ∷ []) ∷ Started 1 1 ∷ Ended 1 1 (pos 0) true ∷ []
unfolding everything free_begun free_ended
told_then = refl

round_ok : are_ok pair free_begun work_round ≡ true
unfolding everything free_begun are_ok is_ok
round_ok = refl

round_taken : AreTaken pair free_begun work_round free_ended
unfolding free_ended
round_taken = ok_taken pair work_round free_begun round_ok

round_keeps : AllByRecursion (λ s. works_at work_readings s ≡ true) work_round
round_keeps = (refl, (refl, (refl, (refl, (refl, (refl, tt))))))

always_one : (k : ℕ) → AreAmong work_readings (work_clocks k)
always_one k w = refl

pub agent_rests : ComesToRest pair work_readings work_clocks free_ended
unfolding free_begun
agent_rests =
    again pair work_readings work_clocks work_orders work_round free_ended pair_tree begun_short begun_few round_keeps round_taken
    always_one
