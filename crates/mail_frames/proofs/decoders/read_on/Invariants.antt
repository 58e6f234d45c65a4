use Rattle.std.proofs.Common.{length}
use Rattle.mail_frames.proofs.Feeding.{ReadSoFar}
use Rattle.mail_frames.proofs.decoders.read_on.Given as goal

abbrev pub invariant-frames : goal.invariant-frames
invariant-frames l = ReadSoFar l.bytes l.fn.frames l.frames l.rest

abbrev pub decreases-frames : goal.decreases-frames
decreases-frames l = length l.rest
