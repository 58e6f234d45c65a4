use Rattle.node_restart.proofs.Deciding.{not_both, one_list, one_place}
use Rattle.node_restart.proofs.laws.files_decide_restarts.Goals as goal

pub returns-clause-one_list : goal.returns-clause-one_list
returns-clause-one_list c = λ net me file a b. one_list net me file a b

pub returns-clause-one_place : goal.returns-clause-one_place
returns-clause-one_place c = λ net me file a b. one_place net me file a b

pub returns-clause-not_both : goal.returns-clause-not_both
returns-clause-not_both c = λ net me file entries place. not_both net me file entries place
