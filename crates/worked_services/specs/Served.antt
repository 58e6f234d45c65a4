-- The agent is served over an empty disk, and stopped while its file gets a header; the disk has the header all the same.
-- It is served again, and finds that nothing was kept. Its node reads the clock, hears nothing, and the service ends for want
-- of memory.
use Rattle.std.specs.Prelude.{[], ◌∷◌, List, None, Ok, ℕ}
use Rattle.outside.specs.declared.links.Arrival.TheVariants as arrival
use Rattle.outside_mem.specs.Memory.{no_calls}
use Rattle.outside_mem.specs.Moments.{CrashState}
use Rattle.outside_mem.specs.declared.crashes.Made.TheVariants.{CutTo, Synced, Tore}
use Rattle.node_inputs.specs.Traces.{Event, Trace}
use Rattle.service_nights.specs.Services.{Acts, Fails, Leaves, Opens, Services}

-- the header of the agent's file, and the closed gate behind it
abbrev pub header : List ℕ
header = 84 ∷ 87 ∷ 83 ∷ 77 ∷ 0 ∷ 1 ∷ 0 ∷ 1 ∷ 0 ∷ []

-- an empty disk, whose third call is to fail
abbrev pub empty : CrashState
empty = record { first = []; made = []; used = 0; room = 64; calls = no_calls (3 ∷ []) }

-- behind a sync, a question for its length, and the write that failed
abbrev pub torn : CrashState
torn = record {
  first = [];
  made = (Tore 0, header) ∷ (Synced, []) ∷ [];
  used = 9;
  room = 64;
  calls = record { fails = 3 ∷ []; made = 3; faults = 1 };
}

-- what the stop left
abbrev pub found : CrashState
found = record { first = header; made = []; used = 0; room = 64; calls = no_calls [] }

-- behind a sync, a question for its length, two reads, a cut, and a sync
abbrev pub rested : CrashState
rested = record {
  first = header;
  made = (Synced, []) ∷ (CutTo 9, []) ∷ (Synced, []) ∷ [];
  used = 0;
  room = 64;
  calls = record { fails = []; made = 6; faults = 0 };
}

abbrev pub turn : Trace
turn = Event.Reads 200 ∷ Event.Comes arrival.Nothing ∷ Event.Reports (Ok None) ∷ []

abbrev pub services : Services CrashState
services =
    Fails 1 empty found
    ∷ Opens 1 found []
    ∷ Acts 1 (Event.Reads 200)
    ∷ Acts 1 (Event.Comes arrival.Nothing)
    ∷ Acts 1 (Event.Reports (Ok None))
    ∷ Leaves 1 rested
    ∷ []
