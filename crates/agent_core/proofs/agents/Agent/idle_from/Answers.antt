use Rattle.std.proofs.Common.{◌∙◌, ap, sym}
use Rattle.agent_core.specs.Nodes.{NodeState}
use Rattle.agent_core.proofs.Holding.{standing_idle}
use Rattle.agent_core.proofs.Idling.{idles_from}
use Rattle.agent_core.proofs.Turning.{body_at}
use Rattle.agent_core.proofs.agents.Agent.idle_from.Goals as goal

pub invariant_of-self : goal.invariant_of-self
invariant_of-self c = (
  standing_idle c.self.inside.net c.self.inside.present c.self.inside.me c.self.inside.owners
      c.self.inside.tracker.index c.self.inside.live c.self.inside.idle_until c.args.t c.self.invariant.0
      (idles_from c.self.inside.net c.self.inside.me c.self.inside.owners c.self.inside.live c.args.t
      (c.requires ∙ sym (ap (λ (n : NodeState). body_at n c.args.t) c.self.view_is))),
  c.self.invariant.1,
)
