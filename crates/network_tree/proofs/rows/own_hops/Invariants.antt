use Rattle.std.proofs.Common.{◌≡◌, map, unwrap_or}
use Rattle.model.specs.Network.{hop}
use Rattle.model.specs.Words.{below}
use Rattle.network_tree.proofs.rows.own_hops.Given as goal

abbrev pub invariant-loop-w : goal.invariant-loop-w
invariant-loop-w l = l.row ≡ map (λ w. unwrap_or (hop l.net w) w) (below l.w)
