use Rattle.std.proofs.Common.{◌<◌, length, take}
use Rattle.std.specs.Prelude.{IfSome}
use Rattle.follow_circles.proofs.Within.{IsLeastBefore}
use Rattle.follow_circles.proofs.groups.least_within.Given as goal

abbrev pub invariant-loop-v : goal.invariant-loop-v
invariant-loop-v l =
    record {
      least : IsLeastBefore l.objects l.groups l.v l.least;
      inside : IfSome l.least (λ v. v < length l.objects);
    }
