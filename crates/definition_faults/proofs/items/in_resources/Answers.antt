use Rattle.std.proofs.Common.{arith, refl}
use Rattle.definition_faults.specs.Items.{resource_rows}
use Rattle.definition_faults.proofs.Loops.{table_more}
use Rattle.definition_faults.proofs.items.in_resources.Goals as goal

pub loop-i-preserved : goal.loop-i-preserved
loop-i-preserved c =
    table_more (resource_rows c.args.names.now) c.as_slice-resources.result.now c.loop-i.i c.index-resources-i.result _ c.loop-i.first
    c.noted-first.result c.of_resource.result (omega arith) c.index-resources-i.is refl c.of_resource.ensures c.noted-first.ensures
    c.loop-i.invariant
