use Rattle.mail_frames.proofs.Streams as streams
use Rattle.mail_frames.proofs.laws.one_reading.Goals as goal

pub returns : goal.returns
returns c = streams.one_reading
