use Rattle.std.proofs.Common.{ℕ, ◌<◌, ◌≤◌, Contains}
use Rattle.std.specs.Prelude.{slice_index}
use Rattle.follow_circles.specs.Circles.{follows_of}
use Rattle.follow_circles.proofs.groups.are_groups.Given as goal

abbrev pub invariant-loop-v : goal.invariant-loop-v
invariant-loop-v l =
    (u w : ℕ) → u < l.v → Contains (follows_of l.objects u) w → slice_index l.groups w ≤ slice_index l.groups u
