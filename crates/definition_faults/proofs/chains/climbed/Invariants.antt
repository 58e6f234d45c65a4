use Rattle.std.proofs.Common.{◌≡◌, ℕ, ◌+◌, ◌*◌, length, map}
use Rattle.model.specs.Words.{below}
use Rattle.definition_faults.specs.Chains.{climb}
use Rattle.definition_faults.proofs.chains.climbed.Given as goal

-- so many steps so far, and so many more each time
abbrev pub invariant-loop-left : goal.invariant-loop-left
invariant-loop-left l =
    (done : ℕ) × (each : ℕ)
    × (l.places.items ≡ map (climb l.names done) (below (length l.names.domains)))
    × (l.powers.items ≡ map (climb l.names each) (below (length l.names.domains)))
    × (done + l.left * each ≡ length l.names.domains)

abbrev pub decreases-loop-left : goal.decreases-loop-left
decreases-loop-left l = l.left
