use Rattle.std.proofs.Common.{◌≡◌, ◌<◌, ℕ, false}
use Rattle.network_tree.specs.Faults.{repeats_a_name}
use Rattle.network_tree.proofs.faults.first_repeated_name.Given as goal

abbrev pub invariant-loop-w : goal.invariant-loop-w
invariant-loop-w l = (k : ℕ) → k < l.w → repeats_a_name l.net k ≡ false
