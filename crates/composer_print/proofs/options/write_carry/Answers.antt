use Rattle.std.proofs.Common.{◌≡◌, ap, sym, ◌∙◌, ◌++◌, codes, false}
use Rattle.composer_print.specs.Stations.{carry_texts, carry_word, is_yes}
use Rattle.composer_print.proofs.Lists.{option_line}
use Rattle.composer_print.proofs.options.write_carry.Goals as goal

pub returns-in_ok-write-in-Some-2-clause-text : goal.returns-in_ok-write-in-Some-2-clause-text
unfolding carry_texts
returns-in_ok-write-in-Some-2-clause-text c =
    let other : is_yes c.in-Some.word.item ≡ false = sym c.is_yes.ensures ∙ c.if-is_yes.false in
    rw (c.in-Some.is, other)
    (option_line c.args.out.now.items _ _ _ (codes "ENCARRYFORWARD ") (carry_word c.in-Some.word.item) c.args.begun
    c.in_ok-write_lead-in-Some.ensures c.in_ok-write-in-Some.ensures.bytes
    (c.in_ok-write-in-Some-2.ensures.bytes ∙ ap (λ t. c.write.new.self.items ++ t) c.carry_word-name.ensures))
