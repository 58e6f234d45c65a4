use Rattle.std.proofs.Common.{◌≡◌, ◌≤◌, ◌-◌, length, drop}
use Rattle.rc_conditions.specs.Machine.{read, read_of}
use Rattle.rc_conditions.specs.Tokens.{tokens_behind}
use Rattle.rc_conditions.proofs.reading.read_bytes.Given as goal

abbrev pub invariant-loop-at : goal.invariant-loop-at
invariant-loop-at l = record {
  answer : read l.reader (tokens_behind 0 l.at (drop l.at l.text)) (length l.text) ≡ read_of l.text;
  within : l.at ≤ length l.text;
}

abbrev pub decreases-loop-at : goal.decreases-loop-at
decreases-loop-at l = length l.text - l.at
