use Rattle.std.proofs.Common.{arith, refl}
use Rattle.definition_faults.specs.Items.{cpu_rows}
use Rattle.definition_faults.proofs.Loops.{table_more}
use Rattle.definition_faults.proofs.items.in_cpus.Goals as goal

pub loop-i-preserved : goal.loop-i-preserved
loop-i-preserved c =
    table_more (cpu_rows c.args.names.now) c.as_slice-cpus.result.now c.loop-i.i c.index-cpus-i.result _ c.loop-i.first
    c.noted-first.result c.of_cpu.result (omega arith) c.index-cpus-i.is refl c.of_cpu.ensures c.noted-first.ensures
    c.loop-i.invariant
