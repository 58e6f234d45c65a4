use Rattle.lemmas.proofs.Lists.{left_further}
use Rattle.report_text.specs.Reports.{start_line}
use Rattle.report_text.proofs.reports.write_starts.Goals as goal

pub loop-start-preserved : goal.loop-start-preserved
loop-start-preserved c =
    left_further (start_line c.args.net.now) c.args.starts.now c.loop-start.start-index c.start-item.result _ _ _
    c.loop-start-test.true c.start-item.is c.loop-start.invariant c.in_ok-write_start.ensures
