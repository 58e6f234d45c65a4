use Rattle.std.proofs.Common.{◌∙◌, ap, sym}
use Rattle.std.specs.Prelude.{not}
use Rattle.agent_core.proofs.Causes.{not_master, outside_net}
use Rattle.agent_core.proofs.Planning.{plan, plan_kept, plan_refused, plan_spent}
use Rattle.agent_core.proofs.agents.Agent.plan_entry.Goals as goal
use Rattle.std.proofs.Common.{refl}

pub returns-then-not-has_drafts : goal.returns-then-not-has_drafts
returns-then-not-has_drafts c =
    outside_net c.args.self.now (plan c.args.drafts.now) (sym c.has_drafts.ensures ∙ c.if-not-has_drafts.true)

pub returns-then-not-is_master : goal.returns-then-not-is_master
returns-then-not-is_master c =
    not_master c.args.self.now (plan c.args.drafts.now) (sym c.has_drafts.ensures ∙ c.if-not-has_drafts.false) refl
    (ap not (sym c.is_master.ensures ∙ c.if-not-is_master.true))

pub returns-then-is_spent : goal.returns-then-is_spent
returns-then-is_spent c =
    plan_spent c.args.self.now c.args.drafts.now (sym c.has_drafts.ensures ∙ c.if-not-has_drafts.false)
    (sym c.is_master.ensures ∙ c.if-not-is_master.false) (sym c.is_spent.ensures ∙ c.if-is_spent.true)

pub returns-in-Ok : goal.returns-in-Ok
returns-in-Ok c =
    plan_kept c.args.self.now c.args.drafts.now c.in-Ok.body c.own_event.result
    (sym c.has_drafts.ensures ∙ c.if-not-has_drafts.false)
    (sym c.is_master.ensures ∙ c.if-not-is_master.false) c.in-Ok.ensures c.own_event.ensures

pub returns-in-Err : goal.returns-in-Err
returns-in-Err c =
    plan_refused c.args.self.now c.args.drafts.now c.in-Err.fault c.no_plan.result
    (sym c.has_drafts.ensures ∙ c.if-not-has_drafts.false)
    (sym c.is_master.ensures ∙ c.if-not-is_master.false) (sym c.is_spent.ensures ∙ c.if-is_spent.false)
    c.in-Err.ensures c.no_plan.ensures
