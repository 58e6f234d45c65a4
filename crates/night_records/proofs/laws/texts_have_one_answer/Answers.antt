use Rattle.night_records.proofs.Once.{one_answer}
use Rattle.night_records.proofs.laws.texts_have_one_answer.Goals as goal

pub returns : goal.returns
returns c = one_answer
