use Rattle.rc_conditions.proofs.Readings.{one_reading}
use Rattle.rc_conditions.proofs.laws.texts_have_one_reading.Goals as goal

pub returns : goal.returns
returns c = λ text a b first second. one_reading text a b first second
