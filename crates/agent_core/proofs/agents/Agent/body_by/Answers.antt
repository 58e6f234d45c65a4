use Rattle.std.proofs.Common.{◌∙◌, ap, subst, sym}
use Rattle.model.specs.Types.{Net}
use Rattle.model.specs.History.{view_of}
use Rattle.model.specs.Turn.{turn_body}
use Rattle.ready_index.specs.Standing.{IsIndexOf}
use Rattle.agent_core.specs.Nodes.{NodeState, view_in}
use Rattle.agent_core.proofs.Holding.{standing_inside}
use Rattle.agent_core.proofs.Turning.{body_at}
use Rattle.agent_core.proofs.agents.Agent.body_by.Goals as goal

pub turn_body-requires : goal.turn_body-requires
turn_body-requires c =
    record {
      inside = standing_inside _ _ _ _ _ _ _ c.self.invariant.0;
      stands = subst (λ (n : NodeState). IsIndexOf (view_in n) n.me c.args.index.now) (sym c.self.view_is) c.requires;
    }

pub returns-in-Ok : goal.returns-in-Ok
returns-in-Ok c =
    c.in-Ok.ensures
    ∙ ap (λ (net : Net). turn_body net (view_of c.self.inside.owners) c.self.inside.me c.self.inside.live c.args.t)
    c.self.invariant.0.here
    ∙ ap (λ (n : NodeState). body_at n c.args.t) c.self.view_is
