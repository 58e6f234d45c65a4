use Rattle.advice_at_rest.proofs.Bounds.{advised_less, few_advices, few_entries, few_gained}
use Rattle.advice_at_rest.proofs.advice_is_bounded.Goals as goal

pub returns-clause-less : goal.returns-clause-less
returns-clause-less c = λ net jobs x y s inv few advised e. advised_less net jobs x y s inv few advised e

pub returns-clause-few : goal.returns-clause-few
returns-clause-few c = λ net readings steps x y inv taken each. few_advices net readings steps x y inv taken each

pub returns-clause-entries_ : goal.returns-clause-entries_
returns-clause-entries_ c = λ net readings steps x y inv taken each. few_entries net readings steps x y inv taken each

pub returns-clause-gained_ : goal.returns-clause-gained_
returns-clause-gained_ c = λ net readings steps x y inv taken each. few_gained net readings steps x y inv taken each
