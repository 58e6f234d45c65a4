use Rattle.record_runs.proofs.Tables.{one_more_job}
use Rattle.record_runs.proofs.lines.jobs_of.Goals as goal

pub loop-launch-preserved : goal.loop-launch-preserved
loop-launch-preserved c =
    one_more_job c.args.live.now c.as_slice-launch-items.result.now c.loop-launch.launch-index c.launch-item.result
    c.loop-launch.jobs.keys c.add_job.new.jobs.keys _ c.as_slice-launch-items.ensures c.loop-launch-test.true
    c.launch-item.is c.in_ok-add_job.ensures c.loop-launch.invariant
