use Rattle.std.proofs.Common.{◌≡◌, ◌++◌, drop}
use Rattle.workload_defs.specs.Stations.{those}
use Rattle.workload_defs.specs.Tables.{cpus_seen}
use Rattle.workload_defs.proofs.stations.put_those.Given as goal

abbrev pub invariant-loop-cpu : goal.invariant-loop-cpu
invariant-loop-cpu l =
    cpus_seen l.initial.stations.items ++ those l.names l.masters l.cpus
    ≡ cpus_seen l.stations.items ++ those l.names l.masters (drop l.cpu-index l.cpus)
