use Rattle.std.proofs.Common.{◌≡◌, ◌++◌, drop, map}
use Rattle.definition_faults.specs.Chains.{place_in}
use Rattle.definition_faults.proofs.chains.through.Given as goal

abbrev pub invariant-loop-place : goal.invariant-loop-place
invariant-loop-place l =
    map (place_in l.steps) l.places ≡ l.further.items ++ map (place_in l.steps) (drop l.place-index l.places)
