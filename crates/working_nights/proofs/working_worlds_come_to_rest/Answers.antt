use Rattle.working_nights.proofs.Inside.{world_inside}
use Rattle.working_nights.proofs.Playing.{worlds_work}
use Rattle.working_nights.proofs.working_worlds_come_to_rest.Goals as goal

pub returns-clause-rest : goal.returns-clause-rest
returns-clause-rest c = λ reads k n s t x tree stands low rounds. worlds_work reads k n s t x tree stands low rounds

pub returns-clause-untold : goal.returns-clause-untold
returns-clause-untold c = λ reads s t round. world_inside reads s t round
