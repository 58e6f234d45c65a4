use Rattle.ready_index.proofs.Releasing.{none_waits}
use Rattle.ready_index.proofs.releases.Releases.new.Goals as goal

pub returns : goal.returns
returns c = λ w. none_waits w _
