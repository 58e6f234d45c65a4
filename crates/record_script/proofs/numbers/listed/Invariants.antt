use Rattle.std.proofs.Common.{◌≡◌, ◌++◌, drop}
use Rattle.record_script.proofs.numbers.listed.Given as goal

abbrev pub invariant-loop-name : goal.invariant-loop-name
invariant-loop-name l = l.list ≡ l.names ++ drop l.name-index l.list
