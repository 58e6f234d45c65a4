use Rattle.std.proofs.Common.{◌≡◌, drop}
use Rattle.std.specs.Prelude.{[]}
use Rattle.record_script.specs.Networks.{first_or}
use Rattle.record_script.specs.Plans as spec
use Rattle.record_script.proofs.jobs.cond.Given as goal

abbrev pub invariant-loop-row : goal.invariant-loop-row
invariant-loop-row l = first_or [] spec.cond_in l.rows ≡ first_or [] spec.cond_in (drop l.row-index l.rows)
