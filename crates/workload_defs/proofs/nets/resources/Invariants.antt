use Rattle.std.proofs.Common.{◌≡◌, ◌≤◌, All, List, map, take}
use Rattle.composer_parser.specs.declared.CpuDef.{CpuDef}
use Rattle.composer_parser.specs.declared.ResourceDef.{ResourceDef}
use Rattle.composer_parser.specs.declared.Lined.{Lined}
use Rattle.workload_defs.specs.Nets.{resource_among}
use Rattle.workload_defs.specs.Tables.{IsStationTable}
use Rattle.workload_defs.proofs.nets.resources.Given as goal

abbrev pub invariant-loop-resource : goal.invariant-loop-resource
invariant-loop-resource l =
    (cpus : List CpuDef) → IsStationTable l.table.entries cpus
    → All (λ (r : Lined ResourceDef). r.item.total ≤ 1024) l.resources
    → l.list ≡ map (resource_among cpus) (take l.resource-index l.resources)
