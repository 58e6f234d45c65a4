use Rattle.std.proofs.Common.{arith}
use Rattle.composer_print.proofs.Spelling.{number_back, plus_back, capped_back}
use Rattle.composer_print.proofs.laws.numbers_are_read_back.Goals as goal

pub returns-clause-number : goal.returns-clause-number
returns-clause-number c = λ n h. number_back n (omega (arith, h))

pub returns-clause-plus : goal.returns-clause-plus
returns-clause-plus c = λ n h. plus_back n (omega (arith, h))

pub returns-clause-value : goal.returns-clause-value
returns-clause-value c = λ n h. capped_back n h
