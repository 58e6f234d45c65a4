use Rattle.composer_print.proofs.Spelling.{time_back, minutes_back}
use Rattle.composer_print.proofs.laws.times_are_read_back.Goals as goal

pub returns-clause-time : goal.returns-clause-time
returns-clause-time c = λ t h. time_back t h

pub returns-clause-value : goal.returns-clause-value
returns-clause-value c = λ t h. minutes_back t h
