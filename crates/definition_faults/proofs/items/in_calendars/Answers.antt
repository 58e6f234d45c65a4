use Rattle.std.proofs.Common.{arith, refl}
use Rattle.definition_faults.specs.Items.{calendar_rows}
use Rattle.definition_faults.proofs.Loops.{table_more}
use Rattle.definition_faults.proofs.items.in_calendars.Goals as goal

pub loop-i-preserved : goal.loop-i-preserved
loop-i-preserved c =
    table_more (calendar_rows c.args.names.now) c.as_slice-calendars.result.now c.loop-i.i c.index-calendars-i.result _ c.loop-i.first
    c.noted-first.result c.of_calendar.result (omega arith) c.index-calendars-i.is refl c.of_calendar.ensures c.noted-first.ensures
    c.loop-i.invariant
