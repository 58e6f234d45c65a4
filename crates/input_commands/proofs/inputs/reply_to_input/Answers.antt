use Rattle.std.proofs.Common.{ap, Err}
use Rattle.input_commands.proofs.Calling.{read_reply, too_long_reply}
use Rattle.input_commands.proofs.inputs.reply_to_input.Goals as goal

pub returns-in_ok-reply_to_bytes-in-Ok-clause-called : goal.returns-in_ok-reply_to_bytes-in-Ok-clause-called
returns-in_ok-reply_to_bytes-in-Ok-clause-called g c =
    read_reply c.args.wanted _ _ c.in-Ok.bytes.items _ c.in-Ok.ensures.all c.in-Ok.ensures.short
    (rw c.deref.ensures.value at c.in_ok-reply_to_bytes-in-Ok.ensures.called)

pub returns-in_ok-limit-in-Err-TooLong-clause-called : goal.returns-in_ok-limit-in-Err-TooLong-clause-called
returns-in_ok-limit-in-Err-TooLong-clause-called g c =
    too_long_reply c.args.wanted _ _ _ (c.in-Err-TooLong.ensures.too_long (ap Err c.in-Err-TooLong.field-0-is))
    c.in_ok-limit-in-Err-TooLong.ensures.status c.in_ok-limit-in-Err-TooLong.ensures.text
    c.in_ok-limit-in-Err-TooLong.ensures.world
