use Rattle.agent_core.proofs.Holding.{standing_inside}
use Rattle.agent_core.proofs.agents.Agent.list_feeds.Goals as goal

pub listed_feeds-requires : goal.listed_feeds-requires
listed_feeds-requires c = standing_inside _ _ _ _ _ _ _ c.self.invariant.0
