use Rattle.composer_print.proofs.Again.{normal_again}
use Rattle.composer_print.proofs.laws.normal_form_is_normal.Goals as goal

pub returns : goal.returns
returns c = λ d. normal_again d
