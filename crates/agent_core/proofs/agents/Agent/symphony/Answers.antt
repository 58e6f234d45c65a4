use Rattle.std.proofs.Common.{List, subst, sym}
use Rattle.model.specs.Types.{Entry}
use Rattle.model.specs.Fit.{AreFitEntries}
use Rattle.agent_core.proofs.agents.Agent.symphony.Goals as goal

pub symphony-requires : goal.symphony-requires
symphony-requires c = subst (λ (l : List Entry). AreFitEntries l) (sym c.owners.ensures) c.requires
