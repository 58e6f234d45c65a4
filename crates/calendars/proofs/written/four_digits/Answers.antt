use Rattle.std.proofs.Common.{◌≡◌, true, arith, sym, ap, ◌∙◌}
use Rattle.std.specs.Char.{is_ascii_digit}
use Rattle.std.specs.List.{list_all}
use Rattle.calendars.proofs.Digits.{four_parsed}
use Rattle.calendars.proofs.written.four_digits.Goals as goal

pub returns : goal.returns
returns c =
    let word = c.args.word.now in
    let all : list_all is_ascii_digit word ≡ true =
    ap (λ bytes. list_all is_ascii_digit bytes) (sym c.as_bytes.ensures.value) ∙ sym c.are_digits.ensures
    ∙ c.if-not-are_digits.false in
    c.ok.ensures.value ∙ four_parsed word _ c.parse.ensures.value.0 all (omega arith)
