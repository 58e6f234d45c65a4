use Rattle.composer_parser.specs.declared.Lined.{Lined}
use Rattle.composer_parser.specs.declared.CalendarDef.{CalendarDef}
use Rattle.definition_names.specs.Keys.{seen}
use Rattle.definition_names.proofs.Steps.{keys_more}
use Rattle.definition_names.proofs.keys.calendar_names.Goals as goal

pub loop-calendar-preserved : goal.loop-calendar-preserved
loop-calendar-preserved c =
    keys_more seen (λ (x : Lined CalendarDef). x.item.name) c.args.calendars.now c.loop-calendar.calendar-index c.calendar-item.result
    c.loop-calendar.names.items _ _ c.loop-calendar-test.true c.calendar-item.is c.in_ok-push.ensures.items c.loop-calendar.invariant
    (let e = c.calendar-item.is in cc)
