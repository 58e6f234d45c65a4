use Rattle.std.proofs.Common.{◌≡◌, drop}
use Rattle.model.specs.Types.{Recovery}
use Rattle.record_script.specs.Networks.{first_or}
use Rattle.record_script.specs.Plans as spec
use Rattle.record_script.proofs.jobs.recovery.Given as goal

abbrev pub invariant-loop-row : goal.invariant-loop-row
invariant-loop-row l = first_or Recovery.Stop spec.recovery_in l.rows ≡ first_or Recovery.Stop spec.recovery_in (drop l.row-index l.rows)
