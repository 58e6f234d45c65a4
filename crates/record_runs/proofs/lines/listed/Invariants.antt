use Rattle.std.proofs.Common.{◌≡◌, ◌++◌}
use Rattle.record_runs.proofs.lines.listed.Given as goal

abbrev pub invariant-loop-number : goal.invariant-loop-number
invariant-loop-number l = l.list ++ l.number-iterator ≡ l.numbers.keys
