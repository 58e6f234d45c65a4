use Rattle.std.proofs.Common.{◌≡◌, ◌<◌, ℕ, false}
use Rattle.network_tree.specs.Faults.{misses_the_master}
use Rattle.network_tree.proofs.faults.first_that_misses_master.Given as goal

abbrev pub invariant-loop-w : goal.invariant-loop-w
invariant-loop-w l = (k : ℕ) → k < l.w → misses_the_master l.net k ≡ false
