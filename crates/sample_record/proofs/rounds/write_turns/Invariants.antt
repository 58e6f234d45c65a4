use Rattle.std.proofs.Common.{◌≡◌, ◌++◌, drop, flat_map}
use Rattle.sample_record.specs.Agents.{agents}
use Rattle.sample_record.specs.Rounds.{turn_line}
use Rattle.sample_record.proofs.rounds.write_turns.Given as goal

abbrev pub invariant-loop-agent : goal.invariant-loop-agent
invariant-loop-agent l =
    l.initial.out.items ++ flat_map (turn_line l.round) agents
    ≡ l.out.items ++ flat_map (turn_line l.round) (drop l.agent-index agents)
