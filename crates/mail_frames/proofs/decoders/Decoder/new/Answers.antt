use Rattle.std.proofs.Common.{refl}
use Rattle.mail_frames.proofs.Feeding.{took_nothing}
use Rattle.mail_frames.proofs.decoders.Decoder.new.Goals as goal

pub returns : goal.returns
returns c = took_nothing _ c.new.ensures refl refl
