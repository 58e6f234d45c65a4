use Rattle.mail_frames.proofs.Streams.{frames_of_good, begins}
use Rattle.mail_frames.proofs.laws.what_was_written_is_read.Goals as goal

pub returns-clause-frames : goal.returns-clause-frames
returns-clause-frames c = frames_of_good

pub returns-clause-good : goal.returns-clause-good
returns-clause-good c = begins
