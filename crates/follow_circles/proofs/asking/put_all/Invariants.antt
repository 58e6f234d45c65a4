use Rattle.std.proofs.Common.{take}
use Rattle.follow_circles.specs.Reached.{MarksThese}
use Rattle.follow_circles.proofs.asking.put_all.Given as goal

abbrev pub invariant-loop-place : goal.invariant-loop-place
invariant-loop-place l =
    MarksThese l.initial.reached l.reached (take l.place-index l.places)
