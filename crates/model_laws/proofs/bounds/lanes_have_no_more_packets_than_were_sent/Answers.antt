use Rattle.model_laws.proofs.Lanes.{lanes_always, lanes_step}
use Rattle.model_laws.proofs.bounds.lanes_have_no_more_packets_than_were_sent.Goals as goal

pub returns-clause-step : goal.returns-clause-step
returns-clause-step c = λ net x y s h e. lanes_step net x y s h e

pub returns-clause-run : goal.returns-clause-run
returns-clause-run c = λ net steps from to. lanes_always net steps from to
