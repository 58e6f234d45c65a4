use Rattle.std.proofs.Common.{refl}
use Rattle.agent_core.proofs.OwnEntries.{file_step}
use Rattle.agent_core.proofs.agents.Agent.fulfilled.Goals as goal

pub keep_alone-requires : goal.keep_alone-requires
keep_alone-requires c = c.in-Ok.ensures.next

pub returns-in-Ok : goal.returns-in-Ok
returns-in-Ok c =
    file_step c.args.self.now c.keep_alone.new.self c.args.object.now c.args.i c.in-Ok.entry c.keep_alone.result
    c.in-Ok.ensures c.keep_alone.ensures

pub returns-in-Err : goal.returns-in-Err
returns-in-Err c = (c.in-Err.ensures, refl)
