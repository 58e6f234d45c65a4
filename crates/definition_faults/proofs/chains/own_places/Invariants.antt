use Rattle.std.proofs.Common.{◌≡◌}
use Rattle.model.specs.Words.{below}
use Rattle.definition_faults.proofs.chains.own_places.Given as goal

abbrev pub invariant-loop-i : goal.invariant-loop-i
invariant-loop-i l = l.places.items ≡ below l.i
