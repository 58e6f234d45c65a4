use Rattle.std.proofs.Common.{refl, ap, Err}
use Rattle.input_commands.specs.Replies.{IsPlan}
use Rattle.input_commands.proofs.Answered.{plan_listed, no_plan_fault}
use Rattle.plan_builder.specs.Limits.{plan_fault}
use Rattle.plan_builder.specs.declared.PlanFault.TheVariants.{Limit, OutOfRange}
use Rattle.input_commands.proofs.replying.plan.Goals as goal

pub returns-in_ok-listing_of-in-Ok : goal.returns-in_ok-listing_of-in-Ok
returns-in_ok-listing_of-in-Ok c =
    plan_listed c.args.day c.args.workload.now _ c.in-Ok.drafts _ c.net.ensures.value
    (no_plan_fault (plan_fault c.args.workload.now c.args.day) _ c.in-Ok.drafts refl c.in-Ok.ensures.refused)
    c.in-Ok.ensures.drafts c.in_ok-listing_of-in-Ok.ensures

pub returns-in-Err-Limit : goal.returns-in-Err-Limit
returns-in-Err-Limit c =
    rw c.in-Err-Limit.most-is
    (IsPlan.too_many c.in-Err-Limit.most
    (c.in-Err-Limit.ensures.causes (Limit c.in-Err-Limit.most) (ap (λ x. Err x) c.in-Err-Limit.field-0-is) (λ e. cc)))

pub returns-in-Err-OutOfRange : goal.returns-in-Err-OutOfRange
returns-in-Err-OutOfRange c =
    rw c.in-Err-OutOfRange.line-is
    (IsPlan.no_moment c.in-Err-OutOfRange.line
    (c.in-Err-OutOfRange.ensures.causes (OutOfRange c.in-Err-OutOfRange.line)
    (ap (λ x. Err x) c.in-Err-OutOfRange.field-0-is) (λ e. cc)))
