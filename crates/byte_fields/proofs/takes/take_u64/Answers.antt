use Rattle.std.proofs.Common.{arith, refl, length-drop}
use Rattle.byte_fields.proofs.Eight.{eight_bytes}
use Rattle.byte_fields.proofs.takes.take_u64.Goals as goal

pub returns-in-len8-up-clause-found : goal.returns-in-len8-up-clause-found
returns-in-len8-up-clause-found c =
    let read = eight_bytes c.args.from.now c.args.at c.from_be_bytes-number.result c.in-len8-up.len_at_least (λ i. omega (arith, c.type_inv.from i)) c.from_be_bytes-number.ensures in
    (read, refl, omega (arith, c.in-len8-up.len_at_least, length-drop c.args.at c.args.from.now))
