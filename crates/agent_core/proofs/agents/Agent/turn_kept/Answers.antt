use Rattle.std.proofs.Common.{refl}
use Rattle.agent_core.proofs.agents.Agent.turn_kept.Goals as goal

pub turn_with-requires : goal.turn_with-requires
turn_with-requires c = c.in-Ok.ensures

pub returns-in-Err : goal.returns-in-Err
returns-in-Err c = (c.in-Err.ensures, refl)
