use Rattle.conman_client.proofs.Fixed as fixed
use Rattle.conman_client.proofs.laws.one_answer.Goals as goal

pub returns : goal.returns
returns c = fixed.one_answer c.one_reading.ensures
