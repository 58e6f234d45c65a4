use Rattle.ready_index.proofs.Standings.{none_known}
use Rattle.ready_index.proofs.jobs.JobIndex.new.Goals as goal

pub returns : goal.returns
returns c = λ w. none_known w _ c.new.ensures
