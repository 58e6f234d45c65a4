use Rattle.worked_night.specs.Workload.{defs}
use Rattle.worked_services.specs.Served.{services}
use Rattle.worked_services.proofs.Whole.{are_services, bring}
use Rattle.worked_services.proofs.laws.the_worked_services_are_services.Goals as goal

pub returns-clause-premises : goal.returns-clause-premises
returns-clause-premises c = are_services

pub returns-clause-links : goal.returns-clause-links
returns-clause-links c = bring

pub returns-clause-sound : goal.returns-clause-sound
returns-clause-sound c = c.services_are_a_world.ensures defs services are_services bring
