use Rattle.plan_builder.proofs.Lists.{job_more}
use Rattle.plan_builder.proofs.drafts.job_drafts.Goals as goal

pub loop-entry-preserved : goal.loop-entry-preserved
loop-entry-preserved c =
    job_more c.args.w.now c.args.plan.now c.args.n c.args.schedule.now c.as_slice-entry-items.result.now
    c.loop-entry.entry-index c.entry-item.result c.loop-entry.drafts c.push.new.self c.in_ok-job_draft.field-0
    c.loop-entry-test.true c.entry-item.is c.in_ok-push.ensures.ok c.loop-entry.invariant c.in_ok-job_draft.ensures
