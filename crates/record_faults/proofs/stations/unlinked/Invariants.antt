use Rattle.std.proofs.Common.{◌≡◌, ◌++◌, map, drop}
use Rattle.record_faults.specs.Known as spec
use Rattle.record_faults.proofs.stations.unlinked.Given as goal

abbrev pub invariant-loop-name : goal.invariant-loop-name
invariant-loop-name l =
    map spec.unlinked l.names ≡ l.all.items ++ map spec.unlinked (drop l.name-index l.names)
