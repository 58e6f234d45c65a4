use Rattle.std.proofs.Common.{◌∙◌, ◌++◌, ap}
use Rattle.sealed_records.proofs.Fronts.{front_put}
use Rattle.sealed_records.proofs.seals.Seal.put.Goals as goal

pub returns-in_err-put-2-clause-front : goal.returns-in_err-put-2-clause-front
returns-in_err-put-2-clause-front c = front_put c.from_residual-in_err-put-2.result c.args.self.now c.args.bytes.now
    c.args.out.now c.put.new.self c.put-2.new.self
    (c.in_ok-put.ensures.put ∙ ap (λ l. c.args.out.now ++ l) c.to_be_bytes-length.ensures) c.in_err-put-2.ensures.same
