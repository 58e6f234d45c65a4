use Rattle.std.proofs.Common.{◌∙◌, sym}
use Rattle.event_audit.proofs.Plan.{masters_plan}
use Rattle.event_audit.proofs.plans.is_right_plan.Goals as goal

pub returns : goal.returns
returns c =
    masters_plan c.args.net.now.carry c.args.owners.now c.args.w c.args.run c.args.cut.now c.as_slice.result.now
    c.args.carried.now c.as_slice-2.result.now c.args.docs.now c.is_plan_of_the_master.result (sym c.w.view_is ∙ c.if-w-ne0.false)
    c.as_slice.ensures c.as_slice-2.ensures c.is_plan_of_the_master.ensures
