-- The launches that a trace kept, and those that it started.
use Rattle.std.specs.Prelude.{if◌then◌else◌, ℕ, List, None, Option, Some, filter_map, map}
use Rattle.model.specs.Types.{Body, Entry, Events, Launched}
use Rattle.model.specs.Equalities.{feed_eq}
use Rattle.outside.specs.Calls.{StartCall}
use Rattle.node_inputs.specs.Traces.{Trace, kept, starts}

-- the job and the number of a launch
abbrev pub launch_in : Body → Option (ℕ × ℕ)
launch_in (Launched j n seen) = Some (j, n)
launch_in _ = None

-- the launch that an entry is, where it is one of this workstation's own events
abbrev pub launch_of : ℕ → Entry → Option (ℕ × ℕ)
launch_of me e = if feed_eq (Events me) e.feed then launch_in e.body else None

-- the launches that were kept among its own events, in order
abbrev pub launches_kept : ℕ → Trace → List (ℕ × ℕ)
launches_kept me trace = filter_map (launch_of me) (kept trace)

-- the jobs that were to start, each with the number of its launch, in order
abbrev pub launches_started : Trace → List (ℕ × ℕ)
launches_started trace = map (λ (call : StartCall). (call.job, call.number)) (starts trace)
