use Rattle.std.proofs.Common.{◌+◌, ◌-◌}
use Rattle.model.specs.Network.{node_count}
use Rattle.network_tree.proofs.Fills.{Fills}
use Rattle.network_tree.proofs.rows.row.Given as goal

abbrev pub invariant-loop-step : goal.invariant-loop-step
invariant-loop-step l = Fills l.net l.b l.row (node_count l.net + 1 - l._step) l.last
