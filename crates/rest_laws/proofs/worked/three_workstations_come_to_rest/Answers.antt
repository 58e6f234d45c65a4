use Rattle.rest_laws.proofs.Trio.{trio_agent, trio_busy, trio_comes, trio_few, trio_known, trio_master, trio_names}
use Rattle.rest_laws.proofs.Trio.{trio_rests, trio_short, trio_tree, trio_work}
use Rattle.rest_laws.proofs.worked.three_workstations_come_to_rest.Goals as goal

pub returns-clause-tree : goal.returns-clause-tree
returns-clause-tree c = trio_tree

pub returns-clause-names : goal.returns-clause-names
returns-clause-names c = trio_names

pub returns-clause-short : goal.returns-clause-short
returns-clause-short c = trio_short

pub returns-clause-few : goal.returns-clause-few
returns-clause-few c = trio_few

pub returns-clause-comes : goal.returns-clause-comes
returns-clause-comes c = trio_comes

pub returns-clause-busy : goal.returns-clause-busy
returns-clause-busy c = trio_busy

pub returns-clause-rest : goal.returns-clause-rest
returns-clause-rest c = trio_rests

pub returns-clause-work : goal.returns-clause-work
returns-clause-work c = trio_work

pub returns-clause-agent : goal.returns-clause-agent
returns-clause-agent c = trio_agent

pub returns-clause-master : goal.returns-clause-master
returns-clause-master c = trio_master

pub returns-clause-known : goal.returns-clause-known
returns-clause-known c = trio_known
