use Rattle.model.specs.FreeSteps.{free_run}
use Rattle.model.specs.World.{empty_world}
use Rattle.model_laws.proofs.FreeRuns.{free_always}
use Rattle.model_laws.proofs.Keeps.{at_start}
use Rattle.launches_at_rest.proofs.Resting.{all_work_rests}
use Rattle.launches_at_rest.proofs.working_rounds_come_to_rest.Goals as goal

pub returns-clause-world : goal.returns-clause-world
returns-clause-world c = λ net readings clocks k n x z tree inv rounds low.
    all_work_rests net readings x tree inv n clocks k z rounds low

pub returns-clause-free : goal.returns-clause-free
returns-clause-free c = λ net readings clocks k n steps z tree rounds low.
    all_work_rests net readings (free_run net steps empty_world) tree (free_always net steps empty_world (at_start net)) n
    clocks k z rounds low
