use Rattle.std.proofs.Common.{◌≡◌, ◌++◌, drop, flat_map}
use Rattle.sample_record.specs.Agents.{agents}
use Rattle.sample_record.specs.Rounds.{link_lines}
use Rattle.sample_record.proofs.rounds.write_links.Given as goal

abbrev pub invariant-loop-agent : goal.invariant-loop-agent
invariant-loop-agent l =
    l.initial.out.items ++ flat_map link_lines agents
    ≡ l.out.items ++ flat_map link_lines (drop l.agent-index agents)
