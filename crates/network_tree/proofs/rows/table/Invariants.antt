use Rattle.std.proofs.Common.{◌≡◌, map}
use Rattle.model.specs.Words.{below}
use Rattle.network_tree.specs.Ways.{row}
use Rattle.network_tree.proofs.rows.table.Given as goal

abbrev pub invariant-loop-b : goal.invariant-loop-b
invariant-loop-b l = l.rows ≡ map (row l.net) (below l.b)
