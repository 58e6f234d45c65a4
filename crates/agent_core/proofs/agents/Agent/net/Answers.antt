use Rattle.std.proofs.Common.{◌<◌, ◌∙◌, ap, subst}
use Rattle.model.specs.Network.{node_count}
use Rattle.agent_core.specs.Nodes.{NodeState, present_in}
use Rattle.agent_core.proofs.Holding.{standing_inside}
use Rattle.agent_core.proofs.agents.Agent.net.Goals as goal

pub returns : goal.returns
returns c =
    record {
      value = c.self.invariant.0.here ∙ ap present_in c.self.view_is;
      inside =
          subst (λ (n : NodeState). n.me < node_count c.self.inside.present) c.self.view_is
          (standing_inside _ _ _ _ _ _ _ c.self.invariant.0);
    }
