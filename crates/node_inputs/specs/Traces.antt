-- The trace of a run: what it kept, and the calls of the outside with their answers, in the order in which they came.
use Rattle.std.specs.Prelude.{ℕ, Bool, List, None, Option, Result, Some, filter_map}
use Rattle.model.specs.Types.{Entry}
use Rattle.outside.specs.Calls.{Asked, Replied, Sent, StartCall}
use Rattle.outside.specs.declared.Failed.{Failed}
use Rattle.outside.specs.declared.links.Arrival.{Arrival}
use Rattle.outside.specs.declared.spawners.End.{End}
use Rattle.node_inputs.specs.declared.ends.NodeEnd.{NodeEnd}

pub data Event : Type 0 where
  -- an entry was kept, or was not, which ends the run
  Keeps : Entry → Event
  Refuses : Entry → NodeEnd → Event
  -- what clock, link, spawner and prober gave; a file is looked for at its path
  Reads : ℕ → Event
  Comes : Arrival → Event
  Reports : Result (Option End) Failed → Event
  Looks : List ℕ → Result Bool Failed → Event
  -- what went out
  Starts : StartCall → Event
  Kills : ℕ → ℕ → Event
  Sends : Sent → Event
  Replies : Replied → Event
  Asks : Asked → Event

abbrev pub Trace : Type 0
Trace = List Event

-- the entries that were kept
abbrev pub kept_by : Event → Option Entry
kept_by (Keeps e) = Some e
kept_by _ = None

abbrev pub kept : Trace → List Entry
kept trace = filter_map kept_by trace

-- those that were to be kept, the one in hand included
abbrev pub tried_by : Event → Option Entry
tried_by (Keeps e) = Some e
tried_by (Refuses e end) = Some e
tried_by _ = None

abbrev pub tried : Trace → List Entry
tried trace = filter_map tried_by trace

-- those that were refused, each with the end of the run
abbrev pub refused_by : Event → Option (Entry × NodeEnd)
refused_by (Refuses e end) = Some (e, end)
refused_by _ = None

abbrev pub refusals : Trace → List (Entry × NodeEnd)
refusals trace = filter_map refused_by trace

-- the readings of the clock
abbrev pub reading_of : Event → Option ℕ
reading_of (Reads t) = Some t
reading_of _ = None

abbrev pub readings : Trace → List ℕ
readings trace = filter_map reading_of trace

-- what came over the links
abbrev pub arrival_of : Event → Option Arrival
arrival_of (Comes a) = Some a
arrival_of _ = None

abbrev pub arrivals : Trace → List Arrival
arrivals trace = filter_map arrival_of trace

-- what was told of ends of processes
abbrev pub report_of : Event → Option (Result (Option End) Failed)
report_of (Reports r) = Some r
report_of _ = None

abbrev pub reports : Trace → List (Result (Option End) Failed)
reports trace = filter_map report_of trace

-- the paths at which files were looked for, each with the answer
abbrev pub look_of : Event → Option (List ℕ × Result Bool Failed)
look_of (Looks path answer) = Some (path, answer)
look_of _ = None

abbrev pub looks : Trace → List (List ℕ × Result Bool Failed)
looks trace = filter_map look_of trace

-- what was to start
abbrev pub start_of : Event → Option StartCall
start_of (Starts call) = Some call
start_of _ = None

abbrev pub starts : Trace → List StartCall
starts trace = filter_map start_of trace

-- the launches that were to be killed
abbrev pub kill_of : Event → Option (ℕ × ℕ)
kill_of (Kills j n) = Some (j, n)
kill_of _ = None

abbrev pub kills : Trace → List (ℕ × ℕ)
kills trace = filter_map kill_of trace

-- what was sent to workstations
abbrev pub send_of : Event → Option Sent
send_of (Sends call) = Some call
send_of _ = None

abbrev pub sends : Trace → List Sent
sends trace = filter_map send_of trace

-- what was replied to clients
abbrev pub reply_of : Event → Option Replied
reply_of (Replies call) = Some call
reply_of _ = None

abbrev pub replies : Trace → List Replied
replies trace = filter_map reply_of trace

-- what links were asked for
abbrev pub asked_of : Event → Option Asked
asked_of (Asks call) = Some call
asked_of _ = None

abbrev pub asks : Trace → List Asked
asks trace = filter_map asked_of trace
