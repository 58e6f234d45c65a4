use Rattle.std.proofs.Common.{◌≡◌, drop}
use Rattle.conman_client.specs.Replies.{first_reply}
use Rattle.conman_client.proofs.listening.reply_among.Given as goal

abbrev pub invariant-loop-frame : goal.invariant-loop-frame
invariant-loop-frame l = first_reply (drop l.frame-index l.frames) ≡ first_reply l.frames
