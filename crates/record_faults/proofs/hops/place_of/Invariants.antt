use Rattle.std.proofs.Common.{◌≡◌, drop}
use Rattle.record_faults.specs.Known.{station_at}
use Rattle.record_faults.proofs.hops.place_of.Given as goal

abbrev pub invariant-loop-i : goal.invariant-loop-i
invariant-loop-i l = station_at l.all l.name ≡ station_at (drop l.i l.all) l.name
