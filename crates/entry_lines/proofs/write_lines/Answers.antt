use Rattle.lemmas.proofs.Lists.{left_further}
use Rattle.report_text.specs.Reports.{entry_line}
use Rattle.entry_lines.proofs.write_lines.Goals as goal

pub loop-entry-preserved : goal.loop-entry-preserved
loop-entry-preserved c =
    left_further (entry_line c.args.net.now) c.args.entries.now c.loop-entry.entry-index c.entry-item.result _ _ _
    c.loop-entry-test.true c.entry-item.is c.loop-entry.invariant c.in_ok-write_line.ensures
