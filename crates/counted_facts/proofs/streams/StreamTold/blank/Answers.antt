use Rattle.std.proofs.Common.{refl}
use Rattle.model.specs.Facts.{commands, is_cancelled, is_ended, is_released, stream_limit}
use Rattle.counted_facts.proofs.streams.StreamTold.blank.Goals as goal

pub returns : goal.returns
unfolding is_released is_ended is_cancelled stream_limit commands
returns c = λ s. refl
