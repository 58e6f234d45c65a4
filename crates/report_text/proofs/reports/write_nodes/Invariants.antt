use Rattle.std.proofs.Common.{◌≡◌, ◌++◌, drop, flat_map}
use Rattle.report_text.specs.Reports.{node_part}
use Rattle.report_text.proofs.reports.write_nodes.Given as goal

abbrev pub invariant-loop-node : goal.invariant-loop-node
invariant-loop-node l =
    l.initial.out.items ++ flat_map (node_part l.net) l.nodes
    ≡ l.out.items ++ flat_map (node_part l.net) (drop l.node-index l.nodes)
