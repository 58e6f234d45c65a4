use Rattle.std.proofs.Common.{◌<◌, subst}
use Rattle.model.specs.Types.{Net}
use Rattle.model.specs.Network.{node_count}
use Rattle.agent_core.proofs.Turning.{turn_entry}
use Rattle.agent_core.proofs.agents.Agent.turn_entry.Goals as goal

pub returns : goal.returns
returns c =
    turn_entry c.args.self.now c.args.t c.args.body c.own_event.result
    (subst (λ (net : Net). c.args.self.now.me < node_count net) c.net-net.ensures.value c.net-net.ensures.inside)
    c.requires c.own_event.ensures
