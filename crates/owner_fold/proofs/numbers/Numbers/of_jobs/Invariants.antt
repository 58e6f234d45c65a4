use Rattle.std.proofs.Common.{map, take}
use Rattle.owner_fold.specs.declared.doc_places.JobPlace.{JobPlace}
use Rattle.owner_fold.specs.Numbers.{ArePlaces}
use Rattle.owner_fold.proofs.numbers.Numbers.of_jobs.Given as goal

abbrev pub invariant-loop-i : goal.invariant-loop-i
invariant-loop-i l = ArePlaces (map (λ (p : JobPlace). p.number) (take l.i l.doc_places.jobs)) l.numbers
