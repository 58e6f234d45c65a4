use Rattle.refusal_laws.proofs.Strangers.{no_stranger}
use Rattle.refusal_laws.proofs.naming.only_the_step_names_strangers.Goals as goal

pub returns : goal.returns
returns c = λ net steps s inside. no_stranger net steps s inside
