use Rattle.lemmas.proofs.Lists.{left_further}
use Rattle.report_text.specs.Reports.{packets_line}
use Rattle.report_text.proofs.reports.write_packets.Goals as goal

pub loop-pair-preserved : goal.loop-pair-preserved
loop-pair-preserved c =
    left_further (packets_line c.args.net.now) c.args.packets.now c.loop-pair.pair-index c.pair-item.result _ _ _
    c.loop-pair-test.true c.pair-item.is c.loop-pair.invariant c.in_ok-write_pair.ensures
