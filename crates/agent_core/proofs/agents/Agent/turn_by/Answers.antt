use Rattle.std.proofs.Common.{◌∙◌, sym}
use Rattle.agent_core.proofs.agents.Agent.turn_by.Goals as goal

pub turn_without-requires : goal.turn_without-requires
turn_without-requires c = sym c.in-None.is ∙ c.requires

pub turn_kept-requires : goal.turn_kept-requires
turn_kept-requires c = sym c.requires ∙ c.in-Some.is
