use Rattle.std.proofs.Common.{◌<◌, subst}
use Rattle.model.specs.Types.{Net}
use Rattle.model.specs.Network.{node_count}
use Rattle.agent_core.proofs.agents.Agent.live_launch.Goals as goal

pub returns-clause-inside : goal.returns-clause-inside
returns-clause-inside c =
    subst (λ (net : Net). c.args.self.now.me < node_count net) c.net-net.ensures.value c.net-net.ensures.inside
