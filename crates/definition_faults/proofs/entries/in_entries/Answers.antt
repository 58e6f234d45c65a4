use Rattle.std.proofs.Common.{arith}
use Rattle.definition_faults.specs.Entries.{faults_of_entry}
use Rattle.definition_faults.proofs.Loops.{placed_more}
use Rattle.definition_faults.proofs.entries.in_entries.Goals as goal

pub loop-i-preserved : goal.loop-i-preserved
loop-i-preserved c =
    placed_more (faults_of_entry c.args.names.now c.args.stream c.args.schedule.now) c.as_slice-entries.result.now c.loop-i.i
    c.index-entries-i.result _ c.loop-i.first c.earlier-first.result c.in_entry.result (omega arith) c.index-entries-i.is
    c.in_entry.ensures c.earlier-first.ensures c.loop-i.invariant
