use Rattle.std.proofs.Common.{◌≡◌, ◌++◌, drop}
use Rattle.std.specs.Prelude.{filter_map}
use Rattle.record_script.specs.Networks as spec
use Rattle.record_script.proofs.nets.nodes.Given as goal

abbrev pub invariant-loop-row : goal.invariant-loop-row
invariant-loop-row l = filter_map (spec.node_of l.numbers) l.rows ≡ l.nodes ++ filter_map (spec.node_of l.numbers) (drop l.row-index l.rows)
