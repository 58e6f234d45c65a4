use Rattle.std.specs.Prelude.{false, true}
use Rattle.working_nights.proofs.Inside.{round_inside}
use Rattle.working_nights.proofs.Meeting.{nodes_work}
use Rattle.working_nights.proofs.working_nodes_come_to_rest.Goals as goal

pub returns-clause-rest : goal.returns-clause-rest
returns-clause-rest c = λ defs reads k n night old new x tree few between short low rounds.
    nodes_work false defs tree few reads k n night old new x between short low rounds

pub returns-clause-advised : goal.returns-clause-advised
returns-clause-advised c = λ defs reads k n night old new x tree few between short low rounds.
    nodes_work true defs tree few reads k n night old new x between short low rounds

pub returns-clause-untold : goal.returns-clause-untold
returns-clause-untold c = λ advises defs reads night old new round. round_inside advises defs reads night old new round
