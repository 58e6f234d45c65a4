use Rattle.std.proofs.Common.{◌==◌, sym, arith, ◌∙◌}
use Rattle.std.proofs.lemmas.List.Sums.{position_or_len_is}
use Rattle.record_rows.proofs.spellings.length_before.Goals as goal

pub returns-then-is_same : goal.returns-then-is_same
returns-then-is_same c =
    sym (position_or_len_is (λ b. b == c.args.byte) c.args.text.now c.loop-i.i 0 (omega arith) c.loop-i.invariant
    (λ _. sym c.is_same.ensures ∙ c.if-is_same.true))

pub returns : goal.returns
returns c =
    sym (position_or_len_is (λ b. b == c.args.byte) c.args.text.now _ 0 (omega arith)
    (λ k lt. c.loop-i.invariant k (omega (arith, lt))) (λ lt. absurd (omega (arith, lt))))
