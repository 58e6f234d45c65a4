use Rattle.event_audit.proofs.Starting.{nothing_started}
use Rattle.event_audit.proofs.starts.StartedLaunches.new.Goals as goal

pub returns : goal.returns
returns c = nothing_started (record { launches = c.new.result }) c.new.ensures.empty
