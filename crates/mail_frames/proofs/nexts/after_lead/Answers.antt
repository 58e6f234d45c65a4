use Rattle.std.proofs.Common.{arith}
use Rattle.mail_frames.proofs.Utf8.{after_ascii, after_two, after_224, after_237, after_other_three, after_240}
use Rattle.mail_frames.proofs.Utf8.{after_244, after_other_four, after_no_lead}
use Rattle.mail_frames.proofs.nexts.after_lead.Goals as goal

pub returns-in-0-to-127 : goal.returns-in-0-to-127
returns-in-0-to-127 c = after_ascii c.args.byte (omega arith)

pub returns-in-194-to-223 : goal.returns-in-194-to-223
returns-in-194-to-223 c = after_two c.args.byte (omega arith) (omega arith)

pub returns-in-224 : goal.returns-in-224
returns-in-224 c = after_224 c.args.byte c.in-224.is

pub returns-in-237 : goal.returns-in-237
returns-in-237 c = after_237 c.args.byte c.in-237.is

pub returns-in-225-to-239 : goal.returns-in-225-to-239
returns-in-225-to-239 c = after_other_three c.args.byte (omega arith) (omega arith) (λ e. omega arith)
    (λ e. omega arith)

pub returns-in-240 : goal.returns-in-240
returns-in-240 c = after_240 c.args.byte c.in-240.is

pub returns-in-244 : goal.returns-in-244
returns-in-244 c = after_244 c.args.byte c.in-244.is

pub returns-in-241-to-243 : goal.returns-in-241-to-243
returns-in-241-to-243 c = after_other_four c.args.byte (omega arith) (omega arith)

pub returns-in-128-to-193 : goal.returns-in-128-to-193
returns-in-128-to-193 c = after_no_lead c.args.byte (omega arith) (omega arith)

pub returns-in-245-to-255 : goal.returns-in-245-to-255
returns-in-245-to-255 c = after_no_lead c.args.byte (omega arith) (omega arith)
