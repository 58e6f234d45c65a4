use Rattle.follow_circles.proofs.Steps.{IsReaching}
use Rattle.follow_circles.proofs.asking.is_on_circle.Given as goal

abbrev pub invariant-loop-at : goal.invariant-loop-at
invariant-loop-at l =
    IsReaching l.objects l.fn.v l.at l.reached
