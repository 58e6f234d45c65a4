use Rattle.std.proofs.Common.{◌≡◌, ◌<◌, ℕ, false}
use Rattle.network_tree.specs.Faults.{has_bad_hop}
use Rattle.network_tree.proofs.faults.first_bad_hop.Given as goal

abbrev pub invariant-loop-w : goal.invariant-loop-w
invariant-loop-w l = (k : ℕ) → k < l.w → has_bad_hop l.net k ≡ false
