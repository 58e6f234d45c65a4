use Rattle.std.proofs.Common.{ℕ, bit_xor, sym, ◌∙◌, arith}
use Rattle.std.proofs.lemmas.List.{ext_get_or, get_or-map, length-map}
use Rattle.keyed_hash.proofs.pad.Goals as goal

pub returns : goal.returns
returns c = ext_get_or 0 _ _ (omega (arith, length-map c.args.block.now (λ (b : ℕ). bit_xor b c.args.with), c.loop-i.invariant.0))
    (λ k h. c.loop-i.invariant.1 k (omega (arith, h, c.loop-i.invariant.0)) ∙ sym (get_or-map (λ (b : ℕ). bit_xor b c.args.with) c.args.block.now k 0 0 (omega (arith, h, c.loop-i.invariant.0))))
