use Rattle.agent_core.proofs.Planning.{plan_told}
use Rattle.agent_core.proofs.agents.Agent.day_plan.Goals as goal

pub returns : goal.returns
returns c =
    plan_told c.args.self.now c.args.drafts.now c.net.result.now c.owners.result.now c.next_plan.result
    c.net.ensures.value c.owners.ensures c.next_plan.ensures.value c.next_plan.ensures.accepted
    c.next_plan.ensures.causes
