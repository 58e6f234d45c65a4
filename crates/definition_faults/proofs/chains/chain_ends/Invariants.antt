use Rattle.std.proofs.Common.{◌≡◌, map, take}
use Rattle.definition_faults.specs.Chains.{is_top}
use Rattle.definition_faults.proofs.chains.chain_ends.Given as goal

abbrev pub invariant-loop-place : goal.invariant-loop-place
invariant-loop-place l =
    l.ends.items ≡ map (is_top l.names) (take l.place-index l.places)
