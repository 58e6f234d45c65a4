use Rattle.std.proofs.Common.{◌≡◌, map, take}
use Rattle.workload_defs.specs.Days.{ascending_days}
use Rattle.workload_defs.proofs.days.sorted_calendars.Given as goal

abbrev pub invariant-loop-calendar : goal.invariant-loop-calendar
invariant-loop-calendar l = l.sorted.items ≡ map ascending_days (take l.calendar-index l.calendars)
