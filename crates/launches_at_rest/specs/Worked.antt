-- A master and an agent, and a round in which the agent launches its job, and its process starts and ends.
use Rattle.std.specs.Prelude.{[], ℕ, ◌++◌, ◌∷◌, List, None, codes, false, pos}
use Rattle.model.specs.Types.{Command, Deliver, Linked, Local, Next, Recovery, StreamDraft, Take, Turn, WorldStep}
use Rattle.model.specs.World.{World, empty_world, run}
use Rattle.model.specs.FreeSteps.{free_run}
use Rattle.rest_laws.specs.AtRest.{pair}

-- a stream of the agent's with one job
abbrev pub work_day : List StreamDraft
work_day =
    record {
      ws = 1;
      name = codes "S";
      priority = 10;
      limit = None;
      carry = false;
      deps = [];
      jobs =
          record {
            ws = 1;
            name = codes "J";
            priority = 10;
            work = Command [];
            logon = [];
            cond = [];
            recovery = Recovery.Stop;
            deps = [];
          }
          ∷ [];
    }
    ∷ []

-- the day is planned, both ends of the link come up, the agent has the plan and releases its stream, and each knows so
abbrev pub work_orders : List WorldStep
work_orders =
    Take 0 (Next work_day) ∷ Take 0 (Linked 1) ∷ Take 1 (Linked 0) ∷ Take 0 (Turn 1) ∷ Deliver 0 1 1 ∷ Deliver 1 0 1
    ∷ Take 1 (Turn 1) ∷ Deliver 1 0 2 ∷ Deliver 0 1 2 ∷ []

unfoldable pub work_begun : World
work_begun = run pair work_orders empty_world

-- the agent launches its job, its process starts and ends, and the master looks too; the launch goes to the master, and
-- its answer comes back
abbrev pub work_turns : List WorldStep
work_turns =
    Take 1 (Turn 1) ∷ Take 1 (Local.Started 1) ∷ Take 1 (Local.Ended 1 (pos 0)) ∷ Take 0 (Turn 1) ∷ []

abbrev pub work_round : List WorldStep
work_round = (work_turns ++ (Deliver 1 0 3 ∷ [])) ++ (Deliver 0 1 3 ∷ [])

unfoldable pub work_turned : World
work_turned = free_run pair work_turns work_begun

unfoldable pub work_arrived : World
work_arrived = free_run pair (Deliver 1 0 3 ∷ []) work_turned

unfoldable pub work_ended : World
work_ended = free_run pair (Deliver 0 1 3 ∷ []) work_arrived

abbrev pub work_readings : ℕ → List ℕ
work_readings w = 1 ∷ []

abbrev pub work_clocks : ℕ → ℕ → ℕ
work_clocks k w = 1

-- the same day without the limits of a replay, and where the round leads
unfoldable pub free_begun : World
free_begun = free_run pair work_orders empty_world

unfoldable pub free_ended : World
free_ended = free_run pair work_round free_begun
