use Rattle.std.proofs.Common.{refl}
use Rattle.agent_core.proofs.Planning.{plan_step}
use Rattle.agent_core.proofs.agents.Agent.planned.Goals as goal

pub keep_alone-requires : goal.keep_alone-requires
keep_alone-requires c = c.in-Ok.ensures.next

pub returns-in-Ok : goal.returns-in-Ok
returns-in-Ok c =
    plan_step c.args.self.now c.keep_alone.new.self c.args.drafts.now c.in-Ok.entry c.keep_alone.result
    c.in-Ok.ensures c.keep_alone.ensures

pub returns-in-Err : goal.returns-in-Err
returns-in-Err c = (c.in-Err.ensures, refl)
