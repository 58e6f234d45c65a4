use Rattle.history_laws.proofs.Worlds.{history_inside, starts_inside}
use Rattle.history_laws.proofs.laws.reached_worlds_stay_inside.Goals as goal

pub returns-clause-entries : goal.returns-clause-entries
returns-clause-entries c = λ net steps. history_inside net steps

pub returns-clause-starts : goal.returns-clause-starts
returns-clause-starts c = λ net steps. starts_inside net steps
