use Rattle.std.proofs.Common.{◌≡◌, ◌++◌, drop, flat_map}
use Rattle.sample_record.specs.Agents.{agents, around}
use Rattle.sample_record.proofs.agents.write_each.Given as goal

abbrev pub invariant-loop-agent : goal.invariant-loop-agent
invariant-loop-agent l =
    l.initial.out.items ++ flat_map (around l.before l.behind) agents
    ≡ l.out.items ++ flat_map (around l.before l.behind) (drop l.agent-index agents)
