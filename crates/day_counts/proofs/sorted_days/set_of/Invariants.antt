use Rattle.std.proofs.Common.{◌≡◌, ℕ, take}
use Rattle.std.specs.List.Sorted.{IsStrictlyIncreasing}
use Rattle.calendars.specs.Sets as spec
use Rattle.day_counts.proofs.sorted_days.set_of.Given as goal

abbrev pub invariant-loop-day : goal.invariant-loop-day
invariant-loop-day l =
    ((day : ℕ) → spec.has l.set.keys day ≡ spec.has (take l.day-index l.days) day) × IsStrictlyIncreasing l.set.keys
