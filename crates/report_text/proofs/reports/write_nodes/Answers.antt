use Rattle.lemmas.proofs.Lists.{left_further}
use Rattle.report_text.specs.Reports.{node_part}
use Rattle.report_text.proofs.reports.write_nodes.Goals as goal

pub loop-node-preserved : goal.loop-node-preserved
loop-node-preserved c =
    left_further (node_part c.args.net.now) c.args.nodes.now c.loop-node.node-index c.node-item.result _ _ _
    c.loop-node-test.true c.node-item.is c.loop-node.invariant c.in_ok-write_node.ensures
