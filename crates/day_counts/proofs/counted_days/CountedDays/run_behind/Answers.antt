use Rattle.std.proofs.Common.{◌+◌, ◌-◌, ◌<◌, ◌≤◌, arith}
use Rattle.calendars.specs.Dates.{last_day}
use Rattle.calendars.specs.declared.DayKind.TheVariants.{Workdays}
use Rattle.day_counts.specs.Counts.{count_before}
use Rattle.day_counts.proofs.Runs.{run_behind_is, run_to_end}
use Rattle.day_counts.proofs.counted_days.CountedDays.run_behind.Goals as goal

pub returns-then-count_before-workdays : goal.returns-then-count_before-workdays
returns-then-count_before-workdays c =
    let free = c.args.self.now in
    let full : count_before free Workdays (last_day + 1) ≤ count_before free Workdays (c.args.day + 1) =
    omega (arith, c.if-count_before-workdays.true, c.count_before.ensures.count, c.count_before-workdays.ensures.count) in
    run_to_end free c.args.day c.requires full

pub returns : goal.returns
returns c =
    let free = c.args.self.now in
    let next = c.first_with.result in
    let full : count_before free Workdays (c.args.day + 1) + 1 ≤ count_before free Workdays next =
    omega (arith, c.first_with.ensures.enough, c.count_before-workdays.ensures.count) in
    run_behind_is free c.args.day next c.first_with.ensures.low c.first_with.ensures.high full
    (λ more.
    let less : count_before free Workdays (next - 1) < c.count_before-workdays.result + 1 =
    c.first_with.ensures.first more in
    omega (arith, less, c.count_before-workdays.ensures.count))
