use Rattle.follow_circles.proofs.Leasts.{IsLeastBelow}
use Rattle.follow_circles.proofs.circles.least_of_all.Given as goal

abbrev pub invariant-loop-place : goal.invariant-loop-place
invariant-loop-place l =
    IsLeastBelow l.objects l.place l.least
