use Rattle.node_inputs.proofs.Flagging.{nothing_lost}
use Rattle.std.proofs.Common.{refl}
use Rattle.node_inputs.proofs.outputs.Carried.new.Goals as goal

pub returns-clause-lost : goal.returns-clause-lost
returns-clause-lost c = nothing_lost 256 refl
