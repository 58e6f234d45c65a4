use Rattle.worked_night.specs.Happened.{night}
use Rattle.worked_night.specs.Workload.{defs}
use Rattle.worked_night.proofs.Whole.{is_night}
use Rattle.worked_night.proofs.laws.the_worked_night_is_a_night.Goals as goal

pub returns-clause-premises : goal.returns-clause-premises
returns-clause-premises c = is_night

pub returns-clause-sound : goal.returns-clause-sound
returns-clause-sound c = c.every_night_is_a_world.ensures defs night is_night
