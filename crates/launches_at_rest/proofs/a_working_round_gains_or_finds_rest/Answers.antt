use Rattle.launches_at_rest.proofs.Gaining.{open_works, work_gains}
use Rattle.launches_at_rest.proofs.a_working_round_gains_or_finds_rest.Goals as goal

pub returns-clause-gains : goal.returns-clause-gains
returns-clause-gains c = λ net readings x y steps tree inv linked round.
    work_gains net readings x y steps tree inv linked round

pub returns-clause-open_ : goal.returns-clause-open_
returns-clause-open_ c = λ net readings x y steps round. open_works net readings x y steps round
