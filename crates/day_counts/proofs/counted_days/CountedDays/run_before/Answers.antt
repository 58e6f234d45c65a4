use Rattle.std.proofs.Common.{◌-◌, ◌<◌, ◌≤◌, arith}
use Rattle.calendars.specs.declared.DayKind.TheVariants.{Workdays}
use Rattle.day_counts.specs.Counts.{count_before}
use Rattle.day_counts.proofs.Runs.{run_before_is}
use Rattle.day_counts.proofs.counted_days.CountedDays.run_before.Goals as goal

pub returns : goal.returns
returns c =
    let free = c.args.self.now in
    let from = c.first_with.result in
    let full : count_before free Workdays c.args.day ≤ count_before free Workdays from =
    omega (arith, c.first_with.ensures.enough, c.count_before.ensures.count) in
    run_before_is free c.args.day from c.first_with.ensures.high full
    (λ some.
    let less : count_before free Workdays (from - 1) < c.count_before.result = c.first_with.ensures.first some in
    omega (arith, less, c.count_before.ensures.count))
