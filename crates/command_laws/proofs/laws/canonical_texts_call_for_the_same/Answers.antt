use Rattle.command_laws.proofs.Canonical.{compiles_to_itself, plans_as_before}
use Rattle.command_laws.proofs.laws.canonical_texts_call_for_the_same.Goals as goal

pub returns-clause-itself : goal.returns-clause-itself
returns-clause-itself c = λ bytes d are. compiles_to_itself bytes d are

pub returns-clause-plans : goal.returns-clause-plans
returns-clause-plans c = λ bytes d are short. plans_as_before bytes d are short
