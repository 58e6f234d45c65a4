-- A master, a manager below it and an agent below that one: one job on the agent, and an order from the agent to the
-- master.
use Rattle.std.specs.Prelude.{[], ℕ, ◌++◌, ◌∷◌, List, None, Some, codes, false, map, pos, suc, true, zero}
use Rattle.model.specs.Types.{Carry, Command, Deliver, Limit, Linked, Local, Net, Next, Recovery, StreamDraft, Take}
use Rattle.model.specs.Types.{Turn, Typed, WorldStep}
use Rattle.model.specs.Words.{numbers_from}
use Rattle.model.specs.World.{World, empty_world, run}

abbrev pub trio : Net
trio =
    record {
      nodes =
          record { name = codes "M"; hop = None; manager = true; full = false }
          ∷ record { name = codes "D"; hop = Some 0; manager = true; full = false }
          ∷ record { name = codes "A"; hop = Some 1; manager = false; full = false }
          ∷ [];
      resources = [];
      prompts = [];
      carry = Carry.All;
    }

-- a stream of the agent's with one job
abbrev pub day : List StreamDraft
day =
    record {
      ws = 2;
      name = codes "S";
      priority = 10;
      limit = None;
      carry = false;
      deps = [];
      jobs =
          record {
            ws = 2;
            name = codes "J";
            priority = 10;
            work = Command [];
            logon = [];
            cond = [];
            recovery = Recovery.Stop;
            deps = [];
          }
          ∷ [];
    }
    ∷ []

-- the day is planned, and the agent's operator sets the master's limit; no link is up yet
abbrev pub trio_orders : List WorldStep
trio_orders = Take 0 (Next day) ∷ Take 2 (Typed 0 (Limit 5)) ∷ []

unfoldable pub trio_begun : World
trio_begun = run trio trio_orders empty_world

-- both ends of both links come up; the plan goes down to the agent, its order up to the master
abbrev pub trio_linked : List WorldStep
trio_linked = Take 0 (Linked 1) ∷ Take 1 (Linked 0) ∷ Take 1 (Linked 2) ∷ Take 2 (Linked 1) ∷ []

-- the packets of a to b with these numbers arrive
abbrev pub flow : ℕ → ℕ → ℕ → ℕ → List WorldStep
flow a b from n = map (Deliver a b) (numbers_from from n)

-- the agent launches its job and hears of its end
abbrev pub trio_launched : List WorldStep
trio_launched =
    Take 0 (Turn 1) ∷ Deliver 0 1 1 ∷ Deliver 1 0 1 ∷ Take 1 (Turn 1) ∷ Deliver 1 2 1 ∷ Deliver 2 1 1 ∷ Take 2 (Turn 1)
    ∷ Take 2 (Turn 1) ∷ Take 2 (Local.Started 1) ∷ Take 2 (Local.Ended 1 (pos 0)) ∷ Take 2 (Turn 1) ∷ []

-- what it tells goes up to the master, and its order too; the answer comes down
abbrev pub trio_told : List WorldStep
trio_told =
    flow 2 1 7 6
    ++ flow 1 2 2 6
    ++ (Take 1 (Turn 1) ∷ [])
    ++ flow 1 0 2 6
    ++ flow 0 1 2 6
    ++ (Take 0 (Turn 1) ∷ Deliver 0 1 8 ∷ Deliver 1 0 8 ∷ Take 1 (Turn 1) ∷ Deliver 1 2 8 ∷ Deliver 2 1 13 ∷ [])

-- clocks read 1 in the first round, and 2 from then on
abbrev pub trio_readings : ℕ → List ℕ
trio_readings w = 1 ∷ 2 ∷ []

abbrev pub trio_clocks : ℕ → ℕ → ℕ
trio_clocks zero w = 1
trio_clocks (suc k) w = 2

-- where all this leads
unfoldable pub trio_later : World
trio_later = run trio (trio_orders ++ (trio_linked ++ (trio_launched ++ trio_told))) empty_world
