use Rattle.refusal_laws.proofs.Limits.{limit_counted}
use Rattle.refusal_laws.proofs.spending.three_limits_are_counted.Goals as goal

pub returns : goal.returns
returns c = λ net x s l. limit_counted net x s l
