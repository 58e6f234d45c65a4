use Rattle.std.proofs.Common.{filter_map, take}
use Rattle.definition_faults.specs.Conditions.{HasBad, IsLeastOf, condition_of_job}
use Rattle.definition_faults.proofs.conditions.bad_job.Given as goal

abbrev pub invariant-loop-job : goal.invariant-loop-job
invariant-loop-job l =
    IsLeastOf (HasBad (filter_map condition_of_job (take l.job-index l.jobs))) l.least
