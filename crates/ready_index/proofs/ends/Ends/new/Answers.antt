use Rattle.ready_index.proofs.Ending.{none_ends}
use Rattle.ready_index.proofs.ends.Ends.new.Goals as goal

pub returns : goal.returns
returns c = λ w. none_ends w _
