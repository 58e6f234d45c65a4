use Rattle.refusal_laws.proofs.Strangers.{no_other}
use Rattle.refusal_laws.proofs.naming.only_plans_ask_for_the_master.Goals as goal

pub returns : goal.returns
returns c = λ net x s elsewhere. no_other net x s elsewhere
