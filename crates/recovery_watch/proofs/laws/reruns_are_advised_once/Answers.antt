use Rattle.recovery_watch.proofs.Once.{advised_once}
use Rattle.recovery_watch.proofs.laws.reruns_are_advised_once.Goals as goal

pub returns : goal.returns
returns c = advised_once
