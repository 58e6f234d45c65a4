use Rattle.std.proofs.Common.{List, flat_map, map, refl}
use Rattle.composer_parser.specs.declared.definitions.CpuDef.{CpuDef}
use Rattle.composer_parser.specs.declared.definitions.Lined.{Lined}
use Rattle.composer_print.specs.Normal.{bare_cpu}
use Rattle.composer_print.specs.Stations.{cpu_line, normal_cpu}
use Rattle.composer_print.proofs.Lists.{part_more, parts_all}
use Rattle.composer_print.proofs.stations.write_cpus.Goals as goal

pub loop-cpu-preserved : goal.loop-cpu-preserved
loop-cpu-preserved c =
    part_more (λ (ys : List (Lined CpuDef)). flat_map (λ x. cpu_line x.item) (map bare_cpu ys))
    (λ (y : Lined CpuDef). cpu_line (normal_cpu y.item)) (λ y ys. refl) _ _ _ c.args.cpus.now c.loop-cpu.cpu-index c.cpu-item.result
    c.loop-cpu-test.true c.cpu-item.is c.in_ok-write_cpu.ensures c.loop-cpu.invariant

pub returns : goal.returns
returns c =
    parts_all (λ (ys : List (Lined CpuDef)). flat_map (λ x. cpu_line x.item) (map bare_cpu ys)) refl
    _ _ c.args.cpus.now c.loop-cpu.cpu-index c.loop-cpu-test.false c.loop-cpu.invariant
