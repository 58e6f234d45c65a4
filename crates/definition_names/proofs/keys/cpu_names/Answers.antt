use Rattle.composer_parser.specs.declared.Lined.{Lined}
use Rattle.composer_parser.specs.declared.CpuDef.{CpuDef}
use Rattle.definition_names.specs.Keys.{seen}
use Rattle.definition_names.proofs.Steps.{keys_more}
use Rattle.definition_names.proofs.keys.cpu_names.Goals as goal

pub loop-cpu-preserved : goal.loop-cpu-preserved
loop-cpu-preserved c =
    keys_more seen (λ (x : Lined CpuDef). x.item.name) c.args.cpus.now c.loop-cpu.cpu-index c.cpu-item.result
    c.loop-cpu.names.items _ _ c.loop-cpu-test.true c.cpu-item.is c.in_ok-push.ensures.items c.loop-cpu.invariant
    (let e = c.cpu-item.is in cc)
