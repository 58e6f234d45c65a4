-- A round in which nothing is told is one of those in which things may be told: of the program's world, and of running nodes.
use Rattle.std.proofs.Common.{[], ◌++◌, ◌∷◌, ◌≡◌, ℕ, None, false, refl, true}
use Rattle.std.specs.Prelude.{Bool, Ok, not}
use Rattle.lemmas.proofs.Booleans.{or_made_left, or_made_right}
use Rattle.lemmas.proofs.Lists.{all_such}
use Rattle.composer_parser.specs.declared.Defs.{Defs}
use Rattle.network_world.specs.Stations.{WorldState}
use Rattle.network_runs.specs.Happenings.{Night}
use Rattle.node_inputs.specs.Traces.{Event}
use Rattle.outside.specs.Calls.{Asked}
use Rattle.outside.specs.declared.links.Arrival.TheVariants as arrival
use Rattle.rest_laws.specs.Left.{keeps_to}
use Rattle.rest_laws.specs.Rounds.{is_of_round}
use Rattle.launches_at_rest.specs.Told.{is_of_work, is_told, works_at}
use Rattle.nights_at_rest.specs.NodeRounds.{IsInside, IsNodeRound, is_given_by, is_inside}
use Rattle.nights_at_rest.specs.Passes.{Pass}
use Rattle.nights_at_rest.specs.Still.{Nodes}
use Rattle.nights_at_rest.specs.Worlds.{IsWorldRound}
use Rattle.working_nights.specs.Passes.{IsNodeWork, IsWorkingPass, is_working}
use Rattle.working_nights.specs.Worlds.{IsWorldWork}

pub world_inside : (reads : ℕ → ℕ) (s t : WorldState) → IsWorldRound reads s t → IsWorldWork reads s t
world_inside reads s t r = record {
  turned = r.turned;
  arrived = r.arrived;
  turning = r.turning;
  arriving = r.arriving;
  answering = r.answering;
  to_turned = r.to_turned;
  to_arrived = r.to_arrived;
  to_end = r.to_end;
  each =
      all_such (λ st. is_of_round st ≡ true) (λ st. is_of_work st ≡ true) ((r.turning ++ r.arriving) ++ r.answering)
      (λ st h. or_made_left (is_of_round st) (is_told st) h) r.each;
  keep =
      all_such (λ st. keeps_to (λ w. reads w ∷ []) st ≡ true) (λ st. works_at (λ w. reads w ∷ []) st ≡ true)
      ((r.turning ++ r.arriving) ++ r.answering)
      (λ st h. or_made_left (keeps_to (λ w. reads w ∷ []) st) (is_told st) h) r.keep;
  linked = r.linked;
  turns = r.turns;
  sent = r.sent;
  answers = r.answers;
}

inside_works : (adv : Bool) (w : ℕ) (event : Event) → is_inside w event ≡ true → is_working adv w event ≡ true
inside_works adv w (Event.Keeps e) h = or_made_right adv (not (is_given_by w e.feed)) h
inside_works adv w (Event.Reads t) h = refl
inside_works adv w (Event.Comes arrival.Nothing) h = refl
inside_works adv w (Event.Comes (arrival.Bytes a bytes)) h = refl
inside_works adv w (Event.Reports (Ok None)) h = refl
inside_works adv w (Event.Looks path (Ok false)) h = refl
inside_works adv w (Event.Kills j n) h = refl
inside_works adv w (Event.Sends call) h = h
inside_works adv w (Event.Asks (Asked.Raise x)) h = refl
inside_works adv w _ h = cc

pass_inside : (adv : Bool) (reads : ℕ → ℕ) (p : Pass) → IsInside reads p → IsWorkingPass adv reads p
pass_inside adv reads p h = record {
  each = all_such (λ event. is_inside p.ws event ≡ true) (λ event. is_working adv p.ws event ≡ true) p.trace (inside_works adv p.ws) h.each;
  stands = h.stands;
}

pub round_inside : (adv : Bool) (defs : Defs) (reads : ℕ → ℕ) (night : Night) (old new : Nodes) → IsNodeRound defs reads night old new
    → IsNodeWork adv defs reads night old new
round_inside adv defs reads night old new r = record {
  turning = r.turning;
  arriving = r.arriving;
  answering = r.answering;
  turned = r.turned;
  arrived = r.arrived;
  to_turned = r.to_turned;
  to_arrived = r.to_arrived;
  to_end = r.to_end;
  linked = r.linked;
  each =
      all_such (IsInside reads) (IsWorkingPass adv reads) ((r.turning ++ r.arriving) ++ r.answering) (pass_inside adv reads) r.each;
  turns = r.turns;
  sent = r.sent;
  answers = r.answers;
}
