use Rattle.rest_laws.proofs.AtRest.{pair_tree}
use Rattle.launches_at_rest.proofs.AgentRound.{work_events, work_gained, work_is_round, work_known, work_linked, work_rounds}
use Rattle.launches_at_rest.proofs.worked.an_agent_works.Goals as goal

pub returns-clause-tree : goal.returns-clause-tree
returns-clause-tree c = pair_tree

pub returns-clause-linked : goal.returns-clause-linked
returns-clause-linked c = work_linked

pub returns-clause-round : goal.returns-clause-round
returns-clause-round c = work_is_round

pub returns-clause-rounds : goal.returns-clause-rounds
returns-clause-rounds c = work_rounds

pub returns-clause-events : goal.returns-clause-events
returns-clause-events c = work_events

pub returns-clause-known : goal.returns-clause-known
returns-clause-known c = work_known

pub returns-clause-gains : goal.returns-clause-gains
returns-clause-gains c = work_gained
