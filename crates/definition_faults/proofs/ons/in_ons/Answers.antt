use Rattle.std.proofs.Common.{arith, refl}
use Rattle.definition_faults.specs.Ons.{on_rows}
use Rattle.definition_faults.proofs.Loops.{list_table_more}
use Rattle.definition_faults.proofs.ons.in_ons.Goals as goal

pub loop-on-preserved : goal.loop-on-preserved
loop-on-preserved c =
    list_table_more (on_rows c.args.names.now) c.args.ons.now c.loop-on.on-index c.on-item.result _ c.loop-on.first
    c.noted-first.result c.of_on.result (omega arith) c.on-item.is refl c.of_on.ensures c.noted-first.ensures
    c.loop-on.invariant
