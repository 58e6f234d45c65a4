use Rattle.ready_index.proofs.Firsts.{first_ready}
use Rattle.ready_index.proofs.laws.first_ready_is_best.Goals as goal

pub returns : goal.returns
returns c = first_ready
