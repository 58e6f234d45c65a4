use Rattle.std.proofs.Common.{◌∙◌, ap, sym}
use Rattle.rc_conditions.specs.Machine.{reader, settled}
use Rattle.rc_conditions.proofs.Settling.{settled_all}
use Rattle.rc_conditions.proofs.readers.Reader.settle.Goals as goal

pub returns : goal.returns
returns c =
    ap (λ p. reader c.loop-op.self.wanted p)
    (sym (settled_all c.args.joint c.loop-op.self.waiting c.loop-op.self.ops c.in_default.ensures)
    ∙ c.loop-op.invariant.rest)
    ∙ ap (λ w. reader w (settled c.args.joint c.args.self.now.waiting c.args.self.now.ops)) c.loop-op.invariant.wanted
