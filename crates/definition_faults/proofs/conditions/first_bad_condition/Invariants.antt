use Rattle.std.proofs.Common.{◌++◌, filter_map, flat_map, take}
use Rattle.definition_faults.specs.Conditions.{HasBad, IsLeastOf, condition_of_job, conditions_of_stream}
use Rattle.definition_faults.proofs.conditions.first_bad_condition.Given as goal

abbrev pub invariant-loop-schedule : goal.invariant-loop-schedule
invariant-loop-schedule l =
    IsLeastOf
    (HasBad (filter_map condition_of_job l.names.jobs ++ flat_map conditions_of_stream (take l.schedule-index l.schedules)))
    l.least
