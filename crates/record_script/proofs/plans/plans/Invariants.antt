use Rattle.std.proofs.Common.{◌≡◌, ◌++◌, drop}
use Rattle.record_script.specs.Plans as spec
use Rattle.record_script.proofs.plans.plans.Given as goal

abbrev pub invariant-loop-i : goal.invariant-loop-i
invariant-loop-i l = spec.plans_with l.numbers l.rows ≡ l.plans ++ spec.plans_with l.numbers (drop l.i l.rows)
