use Rattle.std.proofs.Common.{arith}
use Rattle.mail_frames.proofs.Built.{all_bytes}
use Rattle.mail_frames.proofs.writes.framed.Goals as goal

pub returns-clause-range : goal.returns-clause-range
returns-clause-range c = all_bytes c.args.content.now (λ i. omega (arith, c.type_inv.content i))
