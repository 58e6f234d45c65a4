use Rattle.std.proofs.Common.{◌++◌, take}
use Rattle.mail_frames.specs.Places.{ScannedAfter, Completes}
use Rattle.mail_frames.specs.declared.places.Scanned.TheVariants.{Open}
use Rattle.mail_frames.proofs.scans.scan.Given as goal

abbrev pub invariant-loop-i : goal.invariant-loop-i
invariant-loop-i l = ScannedAfter (λ rest. Completes l.fn.start (take l.i l.bytes ++ rest)) (Open l.place)
