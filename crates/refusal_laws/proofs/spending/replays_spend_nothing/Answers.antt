use Rattle.refusal_laws.proofs.Numbers.{no_number_spent}
use Rattle.refusal_laws.proofs.Places.{no_place_spent}
use Rattle.refusal_laws.proofs.Runs.{no_run_spent}
use Rattle.refusal_laws.proofs.spending.replays_spend_nothing.Goals as goal

pub returns-clause-places : goal.returns-clause-places
returns-clause-places c = λ net steps s. no_place_spent net steps s

pub returns-clause-runs : goal.returns-clause-runs
returns-clause-runs c = λ net steps s. no_run_spent net steps s

pub returns-clause-numbers : goal.returns-clause-numbers
returns-clause-numbers c = λ net steps s streams jobs. no_number_spent net steps s streams jobs
