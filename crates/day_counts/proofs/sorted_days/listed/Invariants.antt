use Rattle.std.proofs.Common.{◌≡◌, ◌++◌}
use Rattle.day_counts.proofs.sorted_days.listed.Given as goal

abbrev pub invariant-loop-day : goal.invariant-loop-day
invariant-loop-day l = l.days.items ++ l.day-iterator ≡ l.set.keys
