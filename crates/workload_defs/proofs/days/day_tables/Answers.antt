use Rattle.std.proofs.Common.{◌∙◌, List, ap, map, subst}
use Rattle.composer_parser.specs.declared.CalendarDef.{CalendarDef}
use Rattle.composer_parser.specs.declared.Defs.{Defs}
use Rattle.composer_parser.specs.declared.Lined.{Lined}
use Rattle.workload_defs.specs.Days.{ascending_days}
use Rattle.workload_defs.specs.Tables.{IsCalendarTable}
use Rattle.workload_defs.proofs.days.day_tables.Goals as goal

pub returns : goal.returns
returns c = record {
  calendars_ =
      subst (λ (l : List (Lined CalendarDef)). IsCalendarTable c.in_ok-calendars.calendars.entries l)
      (c.as_slice.ensures ∙ ap (λ (d : Defs). d.calendars) c.defs.ensures) c.in_ok-calendars.ensures;
  sorted_ =
      c.in_ok-sorted.ensures
      ∙ ap (λ (l : List (Lined CalendarDef)). map ascending_days l)
      (c.as_slice-2.ensures ∙ ap (λ (d : Defs). d.calendars) c.defs-2.ensures);
  free_ = c.in_ok-free.ensures;
}
