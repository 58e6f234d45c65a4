use Rattle.std.proofs.Common.{arith}
use Rattle.mail_frames.proofs.Reached.{no_room}
use Rattle.mail_frames.proofs.places.in_content.Goals as goal

pub returns-then-left-due : goal.returns-then-left-due
returns-then-left-due c =
    no_room c.args.left c.args.byte c.args.next c.in-Some.next (omega (arith, c.if-left-due.true, c.due.ensures))
    c.in-Some.ensures
