use Rattle.std.proofs.Common.{◌≤◌, ◌<◌, ◌-◌}
use Rattle.calendars.specs.declared.DayKind.TheVariants.{Workdays}
use Rattle.day_counts.specs.Counts.{count_before}
use Rattle.day_counts.proofs.counted_days.CountedDays.first_with.Given as goal

abbrev pub invariant-loop-from : goal.invariant-loop-from
invariant-loop-from l =
    record {
      least : l.fn.low ≤ l.from;
      ordered : l.from ≤ l.to;
      most : l.to ≤ l.fn.high;
      enough : l.fn.workdays ≤ count_before l.self Workdays l.to;
      first : l.fn.low < l.from → count_before l.self Workdays (l.from - 1) < l.fn.workdays;
    }

abbrev pub decreases-loop-from : goal.decreases-loop-from
decreases-loop-from l = l.to - l.from
