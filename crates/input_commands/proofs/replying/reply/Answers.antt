use Rattle.std.proofs.Common.{ap, Err}
use Rattle.input_commands.specs.Replies.{ComesOf}
use Rattle.input_commands.proofs.Answered.{read_outcome}
use Rattle.input_commands.proofs.replying.reply.Goals as goal

pub returns-in-Ok : goal.returns-in-Ok
returns-in-Ok c =
    read_outcome c.args.wish c.args.bytes.now c.in-Ok.workload c.outcome.result c.in-Ok.ensures.checked
    c.outcome.ensures

pub returns-in-Err-Refused : goal.returns-in-Err-Refused
returns-in-Err-Refused c =
    rw c.in-Err-Refused.refusal-is
    (ComesOf.refused c.in-Err-Refused.refusal
    (c.in-Err-Refused.ensures.refused c.in-Err-Refused.refusal (ap (λ x. Err x) c.in-Err-Refused.field-0-is)))
