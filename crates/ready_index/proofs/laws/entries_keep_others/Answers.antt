use Rattle.ready_index.proofs.Further.{entries_keep}
use Rattle.ready_index.proofs.laws.entries_keep_others.Goals as goal

pub returns : goal.returns
returns c = entries_keep
