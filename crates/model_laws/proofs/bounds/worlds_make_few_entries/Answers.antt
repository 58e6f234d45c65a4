use Rattle.model_laws.proofs.Entries.{always_short, few_starts}
use Rattle.model_laws.proofs.bounds.worlds_make_few_entries.Goals as goal

pub returns-clause-entries : goal.returns-clause-entries
returns-clause-entries c = λ net steps. always_short net steps

pub returns-clause-starts : goal.returns-clause-starts
returns-clause-starts c = λ net steps. few_starts net steps
