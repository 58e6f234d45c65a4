use Rattle.lemmas.proofs.Lists.{left_further}
use Rattle.report_text.specs.Reports.{holds_line}
use Rattle.report_text.proofs.reports.write_holds.Goals as goal

pub loop-held-preserved : goal.loop-held-preserved
loop-held-preserved c =
    left_further (holds_line c.args.net.now) c.args.holds.now c.loop-held.held-index c.held-item.result _ _ _
    c.loop-held-test.true c.held-item.is c.loop-held.invariant c.in_ok-write_held.ensures
