use Rattle.lemmas.proofs.Results.{after_ok}
use Rattle.event_audit.proofs.Starting.{started_more}
use Rattle.event_audit.proofs.starts.StartedLaunches.start.Goals as goal

pub returns : goal.returns
returns c =
    after_ok c.put.result c.put.ensures
    (λ told earlier h. started_more earlier c.args.start.now c.launch_of.result c.args.self.now
    (record { launches = c.put.new.launches }) c.launch_of.ensures.job c.launch_of.ensures.number told h)
