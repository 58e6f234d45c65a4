use Rattle.std.proofs.Common.{◌≡◌, ◌++◌, ◌+◌, drop}
use Rattle.record_script.specs.Steps as spec
use Rattle.record_script.proofs.steps.steps.Given as goal

abbrev pub invariant-loop-i : goal.invariant-loop-i
invariant-loop-i l = spec.steps_from l.numbers 1 l.rows ≡ l.steps ++ spec.steps_from l.numbers (1 + l.i) (drop l.i l.rows)
