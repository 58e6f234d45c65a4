use Rattle.std.proofs.Common.{◌≡◌, ◌-◌, drop, length}
use Rattle.node_replies.specs.Patterns.{matches}
use Rattle.node_replies.proofs.Rests.{part_new}
use Rattle.node_replies.proofs.patterns.add_first.Given as goal

abbrev pub invariant-loop-passed : goal.invariant-loop-passed
invariant-loop-passed l = record {
  answers : l.answers ≡ part_new (drop 1 l.pattern) l.pattern l.text (length l.text - l.passed);
  next : l.next ≡ matches (drop 1 l.pattern) (drop (length l.text - l.passed) l.text);
}
