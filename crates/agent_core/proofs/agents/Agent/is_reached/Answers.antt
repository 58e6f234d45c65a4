use Rattle.std.proofs.Common.{◌<◌, subst, sym}
use Rattle.model.specs.Types.{Net}
use Rattle.model.specs.Network.{node_count}
use Rattle.agent_core.proofs.agents.Agent.is_reached.Goals as goal

pub neighbours-requires : goal.neighbours-requires
neighbours-requires c =
    record {
      one = subst (λ me. me < node_count c.net.result.now) (sym c.me.ensures.value) c.net.ensures.inside;
      other = subst (λ (net : Net). c.args.m < node_count net) (sym c.net.ensures.value) c.requires;
    }
