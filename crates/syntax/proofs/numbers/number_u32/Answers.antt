use Rattle.std.proofs.Common.{◌∙◌, sym}
use Rattle.syntax.proofs.Digits.{number_from_parse, no_number}
use Rattle.syntax.proofs.numbers.number_u32.Goals as goal

pub returns-then-not-is_number : goal.returns-then-not-is_number
returns-then-not-is_number c = sym (no_number 32 _ (sym c.is_number.ensures ∙ c.if-not-is_number.true))

pub returns : goal.returns
returns c =
    c.ok.ensures.value
    ∙ number_from_parse 32 c.args.word.now _ c.parse.ensures.value.0
    (sym c.is_number.ensures ∙ c.if-not-is_number.false)
