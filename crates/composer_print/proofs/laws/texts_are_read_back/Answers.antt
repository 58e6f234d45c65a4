use Rattle.composer_print.proofs.Spelling.{quoted_back}
use Rattle.composer_print.proofs.laws.texts_are_read_back.Goals as goal

pub returns : goal.returns
returns c = λ text h. quoted_back text h
