use Rattle.std.proofs.Common.{take}
use Rattle.owner_fold.specs.Numbers.{ArePlaces}
use Rattle.owner_fold.proofs.numbers.Numbers.of_members.Given as goal

abbrev pub invariant-loop-i : goal.invariant-loop-i
invariant-loop-i l = ArePlaces (take l.i l.members) l.numbers
