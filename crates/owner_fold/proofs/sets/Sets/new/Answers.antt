use Rattle.owner_fold.proofs.Beside.{sets_of_none}
use Rattle.owner_fold.proofs.sets.Sets.new.Goals as goal

pub returns : goal.returns
returns c = sets_of_none _
