use Rattle.std.proofs.Common.{arith, refl}
use Rattle.definition_faults.specs.Items.{job_rows}
use Rattle.definition_faults.proofs.Loops.{table_more}
use Rattle.definition_faults.proofs.items.in_jobs.Goals as goal

pub loop-i-preserved : goal.loop-i-preserved
loop-i-preserved c =
    table_more (job_rows c.args.names.now) c.as_slice-jobs.result.now c.loop-i.i c.index-jobs-i.result _ c.loop-i.first
    c.noted-first.result c.of_job.result (omega arith) c.index-jobs-i.is refl c.of_job.ensures c.noted-first.ensures
    c.loop-i.invariant
