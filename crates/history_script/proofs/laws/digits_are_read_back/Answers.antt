use Rattle.history_script.proofs.Returns.{digits_back}
use Rattle.history_script.proofs.laws.digits_are_read_back.Goals as goal

pub returns : goal.returns
returns c = λ bytes all some. digits_back bytes all some
