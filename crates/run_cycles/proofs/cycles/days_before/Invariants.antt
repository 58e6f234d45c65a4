use Rattle.std.proofs.Common.{◌≡◌, ◌++◌, ◌-◌, filter}
use Rattle.std.specs.List.{range_with_len}
use Rattle.run_cycles.specs.Runs.{runs}
use Rattle.run_cycles.proofs.cycles.days_before.Given as goal

abbrev pub invariant-loop-day : goal.invariant-loop-day
invariant-loop-day l =
    filter (runs l.w l.stream) (range_with_len l.from (l.end - l.from))
    ≡ l.days.items ++ filter (runs l.w l.stream) (range_with_len l.day (l.end - l.day))
