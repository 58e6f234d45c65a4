use Rattle.service_nights.specs.Services.{night_of}
use Rattle.service_nights.proofs.laws.services_are_a_world.Goals as goal

pub returns : goal.returns
returns g c = λ defs services are links.
    c.every_night_is_a_world.ensures defs (night_of services) (c.services_are_a_night.ensures defs services are links)
