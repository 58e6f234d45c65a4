use Rattle.canonical_laws.proofs.Faultless.{one_form, form_faultless}
use Rattle.canonical_laws.proofs.Lines.{lines_alone, read_form}
use Rattle.canonical_laws.proofs.laws.one_form_is_faultless.Goals as goal

pub returns-clause-together : goal.returns-clause-together
returns-clause-together c = λ d e same none. one_form d e same none

pub returns-clause-form : goal.returns-clause-form
returns-clause-form c = λ d none. form_faultless d none

pub returns-clause-lines : goal.returns-clause-lines
returns-clause-lines c = λ d e same none. one_form d e (lines_alone d e same) none

pub returns-clause-back : goal.returns-clause-back
returns-clause-back c = λ d e same none. one_form d e (read_form d e same) none
