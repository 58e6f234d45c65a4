use Rattle.launches_at_rest.proofs.AgentRest.{agent_rests, begun_few, begun_short, told_then}
use Rattle.launches_at_rest.proofs.worked.an_agent_comes_to_rest.Goals as goal

pub returns-clause-short : goal.returns-clause-short
returns-clause-short c = begun_short

pub returns-clause-few : goal.returns-clause-few
returns-clause-few c = begun_few

pub returns-clause-told : goal.returns-clause-told
returns-clause-told c = told_then

pub returns-clause-comes : goal.returns-clause-comes
returns-clause-comes c = agent_rests
