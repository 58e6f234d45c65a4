use Rattle.composer_print.proofs.Spelling.{is_date_back, day_back}
use Rattle.composer_print.proofs.laws.dates_are_read_back.Goals as goal

pub returns-clause-date : goal.returns-clause-date
returns-clause-date c = λ day h. is_date_back day h

pub returns-clause-value : goal.returns-clause-value
returns-clause-value c = λ day h. day_back day h
