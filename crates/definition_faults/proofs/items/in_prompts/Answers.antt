use Rattle.std.proofs.Common.{arith, refl}
use Rattle.definition_faults.specs.Items.{prompt_rows}
use Rattle.definition_faults.proofs.Loops.{table_more}
use Rattle.definition_faults.proofs.items.in_prompts.Goals as goal

pub loop-i-preserved : goal.loop-i-preserved
loop-i-preserved c =
    table_more (prompt_rows c.args.names.now) c.as_slice-prompts.result.now c.loop-i.i c.index-prompts-i.result _ c.loop-i.first
    c.noted-first.result c.of_prompt.result (omega arith) c.index-prompts-i.is refl c.of_prompt.ensures c.noted-first.ensures
    c.loop-i.invariant
