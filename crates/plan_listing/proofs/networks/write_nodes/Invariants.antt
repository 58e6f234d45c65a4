use Rattle.std.proofs.Common.{◌≡◌, ◌++◌, drop, flat_map}
use Rattle.plan_listing.specs.Networks.{node_line}
use Rattle.plan_listing.proofs.networks.write_nodes.Given as goal

abbrev pub invariant-loop-node : goal.invariant-loop-node
invariant-loop-node l =
    l.initial.out.items ++ flat_map (node_line l.net) l.nodes
    ≡ l.out.items ++ flat_map (node_line l.net) (drop l.node-index l.nodes)
