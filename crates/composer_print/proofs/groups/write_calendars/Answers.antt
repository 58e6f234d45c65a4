use Rattle.std.proofs.Common.{List, codes, flat_map, map, refl, sym, ◌∙◌}
use Rattle.composer_parser.specs.declared.definitions.CalendarDef.{CalendarDef}
use Rattle.composer_parser.specs.declared.definitions.Lined.{Lined}
use Rattle.composer_print.specs.Groups.{calendar_line}
use Rattle.composer_print.specs.Normal.{bare}
use Rattle.composer_print.proofs.Lists.{group_all, part_more}
use Rattle.composer_print.proofs.groups.write_calendars.Goals as goal

pub loop-calendar-preserved : goal.loop-calendar-preserved
loop-calendar-preserved c =
    part_more (λ (ys : List (Lined CalendarDef)). flat_map (λ x. calendar_line x.item) (map bare ys))
    (λ (y : Lined CalendarDef). calendar_line y.item) (λ y ys. refl) _ _ _ c.args.calendars.now c.loop-calendar.calendar-index c.calendar-item.result
    c.loop-calendar-test.true c.calendar-item.is c.in_ok-write_calendar.ensures c.loop-calendar.invariant

pub returns : goal.returns
returns c =
    group_all (λ (ys : List (Lined CalendarDef)). flat_map (λ x. calendar_line x.item) (map bare ys)) refl bare
    (codes "$CALENDAR\n") _ _ _ c.args.calendars.now c.loop-calendar.calendar-index (sym c.is_empty.ensures ∙ c.if-is_empty.false)
    c.in_ok-write.ensures.bytes c.loop-calendar-test.false c.loop-calendar.invariant
