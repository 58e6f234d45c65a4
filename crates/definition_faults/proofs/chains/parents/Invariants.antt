use Rattle.std.proofs.Common.{◌≡◌, map}
use Rattle.model.specs.Words.{below}
use Rattle.definition_faults.specs.Chains.{parent_of}
use Rattle.definition_faults.proofs.chains.parents.Given as goal

abbrev pub invariant-loop-i : goal.invariant-loop-i
invariant-loop-i l =
    l.places.items ≡ map (parent_of l.names) (below l.i)
