use Rattle.std.proofs.Common.{◌≡◌, take}
use Rattle.network_world.proofs.copies.copied_starts.Given as goal

abbrev pub invariant-loop-start : goal.invariant-loop-start
invariant-loop-start l = l.copies ≡ take l.start-index l.starts
