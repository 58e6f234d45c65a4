use Rattle.std.proofs.Common.{◌≡◌, ◌++◌, drop, map, slice_get}
use Rattle.record_faults.specs.Hops.{hop_of}
use Rattle.record_faults.proofs.hops.hop_places.Given as goal

abbrev pub invariant-loop-s : goal.invariant-loop-s
invariant-loop-s l = map (hop_of l.all) l.all ≡ map (slice_get l.all) l.hops.items ++ map (hop_of l.all) (drop l.s-index l.all)
