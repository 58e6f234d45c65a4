use Rattle.std.proofs.Common.{◌≡◌, map, take}
use Rattle.composer_parser.specs.declared.Lined.{Lined}
use Rattle.composer_parser.specs.declared.CpuDef.{CpuDef}
use Rattle.definition_names.specs.Keys.{seen}
use Rattle.definition_names.proofs.keys.cpu_names.Given as goal

abbrev pub invariant-loop-cpu : goal.invariant-loop-cpu
invariant-loop-cpu l =
    map seen l.names.items ≡ map (λ (x : Lined CpuDef). x.item.name) (take l.cpu-index l.cpus)
