use Rattle.std.proofs.Common.{◌≡◌, filter, not, take}
use Rattle.day_counts.specs.Weeks.{is_weekly}
use Rattle.day_counts.proofs.counted_days.extra_of.Given as goal

abbrev pub invariant-loop-day : goal.invariant-loop-day
invariant-loop-day l = l.extra.items ≡ filter (λ day. not (is_weekly l.sa l.su day)) (take l.day-index l.days)
