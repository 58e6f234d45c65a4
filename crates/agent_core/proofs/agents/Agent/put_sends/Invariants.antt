use Rattle.std.proofs.Common.{◌≡◌, ◌-◌, ◌*◌, ◌≤◌}
use Rattle.std.specs.Prelude.{◌++◌}
use Rattle.model.specs.Words.{below}
use Rattle.model.specs.Network.{node_count}
use Rattle.agent_core.specs.Nodes.{present_in}
use Rattle.agent_core.specs.Sending.{sends_among}
use Rattle.agent_core.proofs.Turning.{sends_from}
use Rattle.agent_core.proofs.agents.Agent.put_sends.Given as goal

abbrev pub invariant-loop-m : goal.invariant-loop-m
invariant-loop-m l =
    record {
      told :
          l.outs.items ++ sends_from l.self l.m
          ≡ l.initial.outs.items ++ sends_among l.self (below (node_count (present_in l.self)));
      room : (node_count l.self.net - l.m) * 8 ≤ l.outs.spare;
    }
