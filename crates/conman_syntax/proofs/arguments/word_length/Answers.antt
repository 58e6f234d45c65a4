use Rattle.std.proofs.Common.{sym, arith, ◌∙◌}
use Rattle.std.proofs.lemmas.List.Sums.{position_or_len_is}
use Rattle.conman_syntax.specs.Arguments.{ends_word}
use Rattle.conman_syntax.proofs.arguments.word_length.Goals as goal

pub returns-then-ends_word : goal.returns-then-ends_word
returns-then-ends_word c =
    sym (position_or_len_is ends_word c.args.line.now c.loop-i.i 0 (omega arith) c.loop-i.invariant
    (λ _. sym c.ends_word.ensures ∙ c.if-ends_word.true))

pub returns : goal.returns
returns c =
    sym (position_or_len_is ends_word c.args.line.now _ 0 (omega arith)
    (λ k lt. c.loop-i.invariant k (omega (arith, lt))) (λ lt. absurd (omega (arith, lt))))
