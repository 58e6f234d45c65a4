use Rattle.history_laws.proofs.Sound.{sound_printed}
use Rattle.history_laws.proofs.laws.soundness_asks_nothing_of_full_status.Goals as goal

pub returns : goal.returns
returns c = λ net entries starts sound. sound_printed net entries starts sound
