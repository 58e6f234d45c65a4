use Rattle.std.proofs.Common.{◌≡◌, All, take}
use Rattle.composer_parser.specs.declared.CpuDef.{CpuDef}
use Rattle.workload_defs.specs.Nets.{HasPort, peers_among}
use Rattle.workload_defs.specs.Tables.{cpus_seen}
use Rattle.workload_defs.proofs.nets.peers_of.Given as goal

abbrev pub invariant-loop-i : goal.invariant-loop-i
invariant-loop-i l =
    All (λ (c : CpuDef). HasPort c) (cpus_seen l.stations)
    → l.peers ≡ peers_among (take l.i (cpus_seen l.stations))
