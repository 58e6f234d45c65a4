use Rattle.std.proofs.Common.{◌∙◌, ◌<◌, None, subst, sym}
use Rattle.model.specs.Types as types
use Rattle.model.specs.Types.{Net}
use Rattle.model.specs.Words.{below}
use Rattle.model.specs.Network.{node_count}
use Rattle.agent_core.specs.Nodes.{NodeState, present_in}
use Rattle.agent_core.specs.Sending.{sends_among}
use Rattle.agent_core.specs.Steps.{IsTaken}
use Rattle.agent_core.proofs.Mailing.{only}
use Rattle.agent_core.proofs.Turning.{quiet_taken}
use Rattle.agent_core.proofs.agents.Agent.turn_without.Goals as goal

pub returns : goal.returns
returns c =
    let n = c.args.self.now in
    let outs = c.into_items.result in
    subst (λ (m : NodeState). IsTaken n (types.Input.Local (types.Turn c.args.t)) (record { kept = None; outs = outs }) m)
    (sym c.idle_from.ensures)
    (quiet_taken n c.args.t outs
    (subst (λ (net : Net). n.me < node_count net) c.net-net.ensures.value c.net-net.ensures.inside) c.requires
    (c.into_items.ensures
    ∙ only c.in_ok-outs.outs.items c.put_sends.new.outs.items (sends_among n (below (node_count (present_in n))))
    c.in_ok-outs.ensures.items c.put_sends.ensures))
