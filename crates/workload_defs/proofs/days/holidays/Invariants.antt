use Rattle.std.proofs.Common.{◌≡◌, bytes_eq, codes, drop}
use Rattle.std.specs.List.{position_from}
use Rattle.composer_parser.specs.declared.CalendarDef.{CalendarDef}
use Rattle.composer_parser.specs.declared.Lined.{Lined}
use Rattle.workload_defs.specs.Days.{holidays}
use Rattle.workload_defs.proofs.days.holidays.Given as goal

abbrev pub invariant-loop-i : goal.invariant-loop-i
invariant-loop-i l =
    holidays l.calendars
    ≡ position_from (λ (c : Lined CalendarDef). bytes_eq c.item.name (codes "HOLIDAYS")) l.i (drop l.i l.calendars)
