-- What the objects of a run tell of it.
use Rattle.std.specs.Prelude.{ℕ, ◌≡◌, Bool, List, Option, Result, map}
use Rattle.file_watch.specs.Asked.{Probe}
use Rattle.outside.specs.Calls.{AddsAllOrEnds, LinkCalls, SpawnerCalls}
use Rattle.outside.specs.declared.Failed.{Failed}
use Rattle.node_inputs.specs.Traces.{Trace, arrivals, asks, kills, looks, readings, replies, reports, sends, starts}

-- what the objects beside the keeper tell
pub record Told : Type 0 where
  pub link : LinkCalls
  pub jobs : SpawnerCalls
  pub clock : Option (List ℕ)
  pub files : Option (List Probe)

abbrev pub told_by : LinkCalls → SpawnerCalls → Option (List ℕ) → Option (List Probe) → Told
told_by link jobs clock files = record { link = link; jobs = jobs; clock = clock; files = files }

pub record LinkTells (trace : Trace) (old new : LinkCalls) : Type 0 where
  pub begun : new.begun ≡ old.begun
  pub arrived : AddsAllOrEnds (arrivals trace) old.arrived new.arrived
  pub sent : AddsAllOrEnds (sends trace) old.sent new.sent
  pub replied : AddsAllOrEnds (replies trace) old.replied new.replied
  pub asked : AddsAllOrEnds (asks trace) old.asked new.asked

pub record SpawnerTells (trace : Trace) (old new : SpawnerCalls) : Type 0 where
  pub started : AddsAllOrEnds (starts trace) old.started new.started
  pub killed : AddsAllOrEnds (kills trace) old.killed new.killed
  pub reported : AddsAllOrEnds (reports trace) old.reported new.reported

-- the paths that were looked for, each with what was answered
abbrev pub probe_of : List ℕ × Result Bool Failed → Probe
probe_of look = record { path = look.0; answer = look.1 }

abbrev pub probes : Trace → List Probe
probes trace = map probe_of (looks trace)

-- each object tells of a stretch of a run what is its own: the clock its readings, the prober what it was asked
pub record Tells (trace : Trace) (old new : Told) : Type 0 where
  pub link : LinkTells trace old.link new.link
  pub jobs : SpawnerTells trace old.jobs new.jobs
  pub clock : AddsAllOrEnds (readings trace) old.clock new.clock
  pub files : AddsAllOrEnds (probes trace) old.files new.files
