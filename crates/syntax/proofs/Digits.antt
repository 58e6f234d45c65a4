-- What `parse` gives at a number.
use Rattle.std.proofs.Common.{◌≡◌, ◌<◌, ◌^◌, ℕ, List, length, true, false, Result, Ok, Err, None, arith, refl}
use Rattle.std.specs.Char.{is_ascii_digit}
use Rattle.std.specs.List.{list_all}
use Rattle.std.specs.Result.{OkIff, result_ok}
use Rattle.std.specs.Str.Parse.{ParsesUnsigned, digits_value}
use Rattle.std.proofs.lemmas.Str.Parse.{parse_digits}
use Rattle.std.proofs.lemmas.Bool.Decides.{nat_tests}
use Rattle.lemmas.proofs.Texts.{decimal_digits}
use Rattle.syntax.specs.Numbers.{is_number, number_of}
use Rattle.base_types.specs.Name.{is_name_byte}
use Rattle.std.specs.Char.{to_ascii_uppercase}

pub digits_of_number : (w : List ℕ) → is_number w ≡ true → (0 < length w) × (list_all is_ascii_digit w ≡ true)
digits_of_number w h = (grind (arith, nat_tests), grind (arith, nat_tests))

by_result : {E : Type 0} (k : ℕ) (w : List ℕ) (r : Result ℕ E)
    → OkIff r ((0 < length w) × (digits_value 10 w < 2 ^ k)) (digits_value 10 w) → is_number w ≡ true → 0 < length w
    → result_ok r ≡ number_of k w
unfolding number_of
by_result k w (Ok x) h n l = grind (arith, nat_tests)
by_result k w (Err e) h n l = grind (arith, nat_tests)

pub number_from_parse : {E : Type 0} (k : ℕ) (w : List ℕ) (r : Result ℕ E) → ParsesUnsigned k 10 w r
    → is_number w ≡ true → result_ok r ≡ number_of k w
number_from_parse k w r h n =
    by_result k w r (parse_digits decimal_digits k w r h (digits_of_number w n).1) n (digits_of_number w n).0

pub no_number : (k : ℕ) (w : List ℕ) → is_number w ≡ false → number_of k w ≡ None
unfolding number_of
no_number k w h = rw h refl

-- a byte of a name is one in capitals
pub name_byte_upper : (b : ℕ) → is_name_byte b ≡ true → is_name_byte (to_ascii_uppercase b) ≡ true
name_byte_upper b h = grind (arith, nat_tests)
