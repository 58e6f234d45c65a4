use Rattle.std.proofs.Common.{◌≡◌, ◌+◌, ◌-◌, filter, slice_get}
use Rattle.std.specs.List.{range_with_len}
use Rattle.calendars.specs.Dates.{last_day}
use Rattle.calendars.specs.Nth.{is_of_kind, days_after}
use Rattle.calendars.proofs.nth_days.nth_after.Given as goal

abbrev pub invariant-loop-other : goal.invariant-loop-other
invariant-loop-other l =
    slice_get (filter (is_of_kind l.free l.kind) (days_after l.day)) l.passed
    ≡ slice_get (filter (is_of_kind l.free l.kind) (range_with_len l.other (last_day + 1 - l.other))) l.left
