use Rattle.std.proofs.Common.{◌≡◌, filter_map, length}
use Rattle.composer_print.specs.Normal.{manager_of}
use Rattle.composer_print.proofs.masters.next_master.Given as goal

abbrev pub invariant-loop-left : goal.invariant-loop-left
invariant-loop-left l = filter_map manager_of l.domains ≡ filter_map manager_of l.left

abbrev pub decreases-loop-left : goal.decreases-loop-left
decreases-loop-left l = length l.left
