use Rattle.std.proofs.Common.{◌≡◌, ◌++◌, flat_map, map}
use Rattle.model.specs.Types.{Orders}
use Rattle.model.specs.Words.{below}
use Rattle.model.specs.Network.{node_count}
use Rattle.network_world.specs.Parts.{held_by}
use Rattle.network_world.proofs.holds.add_orders.Given as goal

abbrev pub invariant-loop-a : goal.invariant-loop-a
invariant-loop-a l =
    l.counts
    ≡ l.initial.counts ++ held_by l.node
    (flat_map (λ b. map (Orders b) (below (node_count l.node.net))) (below l.a))
