use Rattle.std.proofs.Common.{map}
use Rattle.record_runs.proofs.Endings.{end_breaks, end_goes}
use Rattle.record_runs.proofs.Tables.{ends, handed_on, no_more_ends}
use Rattle.record_runs.proofs.Ways.{arrives, same_way}
use Rattle.record_runs.proofs.lines.end_jobs.Goals as goal

pub returns-in_err-take_step-clause-stopped : goal.returns-in_err-take_step-clause-stopped
returns-in_err-take_step-clause-stopped c =
    handed_on _ c.in_err-take_step.field-0.0 c.from_residual.result c.from_residual.ensures.1
    (end_breaks c.args.world.now (λ x. map (ends c.args.w c.args.code.now) c.args.jobs.now) c.loop-job.world c.args.w
    c.args.code.now c.args.jobs.now c.loop-job.job-index c.ended-step.result c.in_err-take_step.field-0.0
    c.loop-job-test.true c.ended-step.ensures.value c.loop-job.invariant c.in_err-take_step.ensures.stopped)

pub loop-job-preserved : goal.loop-job-preserved
loop-job-preserved c =
    end_goes c.args.world.now (λ x. map (ends c.args.w c.args.code.now) c.args.jobs.now) c.loop-job.world
    c.take_step.new.world c.args.w c.args.code.now c.args.jobs.now c.loop-job.job-index c.ended-step.result
    c.loop-job-test.true c.ended-step.ensures.value c.loop-job.invariant c.in_ok-take_step.ensures.taken

pub returns-clause-taken : goal.returns-clause-taken
returns-clause-taken c =
    arrives c.args.world.now (λ x. map (ends c.args.w c.args.code.now) c.args.jobs.now) c.loop-job.world
    (same_way _ _ _ _ _ (no_more_ends c.args.w c.args.code.now c.args.jobs.now c.loop-job.job-index c.loop-job-test.false)
    c.loop-job.invariant)
