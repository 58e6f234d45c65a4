use Rattle.std.proofs.Common.{◌≡◌, filter, slice_get}
use Rattle.calendars.specs.Nth.{is_of_kind, days_before, below}
use Rattle.calendars.proofs.nth_days.nth_before.Given as goal

abbrev pub invariant-loop-other : goal.invariant-loop-other
invariant-loop-other l =
    slice_get (filter (is_of_kind l.free l.kind) (days_before l.day)) l.passed
    ≡ slice_get (filter (is_of_kind l.free l.kind) (below l.other)) l.left
