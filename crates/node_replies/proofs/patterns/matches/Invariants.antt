use Rattle.std.proofs.Common.{◌≡◌, ◌-◌, drop, length}
use Rattle.node_replies.specs.Patterns.{matches_of_rests}
use Rattle.node_replies.proofs.patterns.matches.Given as goal

abbrev pub invariant-loop-passed : goal.invariant-loop-passed
invariant-loop-passed l = l.answers.items ≡ matches_of_rests (drop (length l.pattern - l.passed) l.pattern) l.text
