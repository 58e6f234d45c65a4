use Rattle.entry_lines.proofs.OneEntry.{made_line, made_long}
use Rattle.entry_lines.proofs.report_of_one.Goals as goal

pub returns-clause-long : goal.returns-clause-long
returns-clause-long c =
    made_long c.args.net.now c.args.entry.now c.in_ok-copy.field-0 c.new-events.result c.push.new.self c.new.result
    c.new-2.result c.new-3.result c.print_report.result c.new-events.ensures c.in_ok-push.ensures.ok c.in_ok-copy.ensures
    c.new.ensures c.new-2.ensures c.new-3.ensures c.print_report.ensures

pub returns-clause-line : goal.returns-clause-line
returns-clause-line c =
    made_line c.args.net.now c.args.entry.now c.in_ok-copy.field-0 c.new-events.result c.push.new.self c.new.result
    c.new-2.result c.new-3.result c.print_report.result c.new-events.ensures c.in_ok-push.ensures.ok c.in_ok-copy.ensures
    c.new.ensures c.new-2.ensures c.new-3.ensures c.print_report.ensures
