use Rattle.std.proofs.Common.{◌≡◌, drop}
use Rattle.record_faults.specs.Known as spec
use Rattle.record_faults.proofs.stations.station_at.Given as goal

abbrev pub invariant-loop-s : goal.invariant-loop-s
invariant-loop-s l = spec.station_at l.all l.name ≡ spec.station_at (drop l.s-index l.all) l.name
