use Rattle.std.proofs.Common.{refl}
use Rattle.agent_core.proofs.agents.Agent.mailed.Goals as goal

pub returns-in-Some : goal.returns-in-Some
returns-in-Some c = (c.in-Some.ensures, refl)

pub answered-requires : goal.answered-requires
answered-requires c = c.in-None.ensures
