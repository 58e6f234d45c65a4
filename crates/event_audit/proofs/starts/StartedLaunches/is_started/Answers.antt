use Rattle.event_audit.proofs.Starting.{started_at}
use Rattle.event_audit.proofs.starts.StartedLaunches.is_started.Goals as goal

pub returns : goal.returns
returns c =
    λ earlier h. started_at c.args.self.now earlier c.args.start.now c.launch_of.result c.contains.result
    c.launch_of.ensures.job c.launch_of.ensures.number c.contains.ensures h
