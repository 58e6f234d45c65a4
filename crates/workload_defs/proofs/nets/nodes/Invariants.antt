use Rattle.std.proofs.Common.{◌≡◌, map, take}
use Rattle.workload_defs.specs.Nets.{node_of}
use Rattle.workload_defs.specs.Tables.{cpus_seen}
use Rattle.workload_defs.proofs.nets.nodes.Given as goal

abbrev pub invariant-loop-cpu : goal.invariant-loop-cpu
invariant-loop-cpu l =
    l.nodes ≡ map (node_of l.names) (take l.cpu-index (cpus_seen l.stations))
