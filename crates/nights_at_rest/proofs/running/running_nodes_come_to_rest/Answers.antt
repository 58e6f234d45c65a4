use Rattle.nights_at_rest.proofs.Beginning.{begun_between}
use Rattle.nights_at_rest.proofs.Meeting.{nodes_rest, passes_between}
use Rattle.nights_at_rest.proofs.Waiting.{still_round}
use Rattle.nights_at_rest.proofs.running.running_nodes_come_to_rest.Goals as goal

pub returns-clause-rest : goal.returns-clause-rest
returns-clause-rest c = λ defs reads k n night old new x tree few between short low rounds.
    nodes_rest defs tree few reads k n night old new x between short low rounds

pub returns-clause-begun : goal.returns-clause-begun
returns-clause-begun c = λ defs night nodes x is_night is begun. begun_between defs night nodes x is_night is begun

pub returns-clause-passes : goal.returns-clause-passes
returns-clause-passes c = λ defs night ps old new x tree few between passes.
    passes_between defs tree few (λ w. 0) ps night old new x between passes

pub returns-clause-still : goal.returns-clause-still
returns-clause-still c = λ defs reads night nodes still linked. still_round defs reads night nodes still linked
