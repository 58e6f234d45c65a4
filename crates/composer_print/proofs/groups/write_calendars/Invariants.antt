use Rattle.std.proofs.Common.{◌≡◌, ◌++◌, drop, flat_map, map}
use Rattle.composer_print.specs.Groups.{calendar_line}
use Rattle.composer_print.specs.Normal.{bare}
use Rattle.composer_print.proofs.groups.write_calendars.Given as goal

abbrev pub invariant-loop-calendar : goal.invariant-loop-calendar
invariant-loop-calendar l =
    l.initial.out.items ++ flat_map (λ x. calendar_line x.item) (map bare l.calendars)
    ≡ l.out.items ++ flat_map (λ x. calendar_line x.item) (map bare (drop l.calendar-index l.calendars))
