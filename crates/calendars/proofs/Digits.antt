-- What `parse` gives at a few digits.
use Rattle.std.proofs.Common.{◌≡◌, ◌<◌, ℕ, List, length, true, Result, Some, arith, ap, ◌∙◌}
use Rattle.std.specs.Char.{is_ascii_digit}
use Rattle.std.specs.List.{list_all}
use Rattle.std.specs.Result.{result_ok}
use Rattle.std.specs.Str.Parse.{ParsesUnsigned, digits_value}
use Rattle.std.proofs.lemmas.Bool.Decides.{nat_tests}
use Rattle.calendars.specs.Written.{digits_of}
use Rattle.std.proofs.lemmas.Str.Parse.{parse_gives, digits_value_short}
use Rattle.lemmas.proofs.Texts.{decimal_digits}

found : (count : ℕ) (w : List ℕ) → length w ≡ count → list_all is_ascii_digit w ≡ true
    → Some (digits_value 10 w) ≡ digits_of count w
found count w l h = grind (arith, nat_tests)

-- two digits are read to their number
pub two_parsed : {E : Type 0} (w : List ℕ) (r : Result ℕ E) → ParsesUnsigned 8 10 w r
    → list_all is_ascii_digit w ≡ true → length w ≡ 2 → result_ok r ≡ digits_of 2 w
two_parsed w r p h l =
    let small : digits_value 10 w < 100 = digits_value_short decimal_digits w 2 h (omega (arith, l)) in
    ap result_ok (parse_gives decimal_digits 8 w r p h (omega (arith, l)) (omega (arith, small))) ∙ found 2 w l h

-- and so are four
pub four_parsed : {E : Type 0} (w : List ℕ) (r : Result ℕ E) → ParsesUnsigned 16 10 w r
    → list_all is_ascii_digit w ≡ true → length w ≡ 4 → result_ok r ≡ digits_of 4 w
four_parsed w r p h l =
    let small : digits_value 10 w < 10000 = digits_value_short decimal_digits w 4 h (omega (arith, l)) in
    ap result_ok (parse_gives decimal_digits 16 w r p h (omega (arith, l)) (omega (arith, small))) ∙ found 4 w l h
