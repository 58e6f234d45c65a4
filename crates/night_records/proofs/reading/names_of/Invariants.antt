use Rattle.std.proofs.Common.{◌≡◌, map, take}
use Rattle.model.specs.Types.{Node}
use Rattle.night_records.proofs.reading.names_of.Given as goal

abbrev pub invariant-loop-node : goal.invariant-loop-node
invariant-loop-node l = l.names ≡ map (λ (n : Node). n.name) (take l.node-index l.nodes)
