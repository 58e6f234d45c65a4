use Rattle.std.proofs.Common.{refl}
use Rattle.agent_core.proofs.OwnEntries.{order_step}
use Rattle.agent_core.proofs.agents.Agent.typed.Goals as goal

pub keep_alone-requires : goal.keep_alone-requires
keep_alone-requires c = c.in-Ok.ensures.next

pub returns-in-Ok : goal.returns-in-Ok
returns-in-Ok c =
    order_step c.args.self.now c.keep_alone.new.self c.args.to c.args.cmd.now c.in-Ok.entry c.keep_alone.result
    c.in-Ok.ensures c.keep_alone.ensures

pub returns-in-Err : goal.returns-in-Err
returns-in-Err c = (c.in-Err.ensures, refl)
