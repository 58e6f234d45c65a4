-- Bytes that are no text write no number.
use Rattle.std.proofs.Common.{◌≡◌, ◌<◌, ℕ, zero, suc, Bool, true, false, eqb, ◌&&◌, List, [], ◌∷◌, drop, get_or}
use Rattle.std.proofs.Common.{None, refl, lit<, arith}
use Rattle.std.specs.Char.{is_ascii_digit}
use Rattle.std.specs.List.{list_all}
use Rattle.std.specs.Str.{IsUtf8, IsAscii}
use Rattle.std.proofs.lemmas.Bool.Decides.{nat_tests}
use Rattle.std.proofs.lemmas.Str.{IsUtf8-from_ascii}
use Rattle.syntax.specs.Numbers.{signed_of, number_of, is_number}

low_digit : (d : ℕ) (rest : Bool) → (is_ascii_digit d && rest) ≡ true → (d < 128) × (rest ≡ true)
low_digit d rest h = (grind (arith, nat_tests), grind (arith, nat_tests))

digits_are_ascii : (ds : List ℕ) → list_all is_ascii_digit ds ≡ true → IsAscii ds
digits_are_ascii [] h zero = lit< tt
digits_are_ascii [] h (suc i) = lit< tt
digits_are_ascii (d ∷ ds) h zero = (low_digit d (list_all is_ascii_digit ds) h).0
digits_are_ascii (d ∷ ds) h (suc i) = digits_are_ascii ds (low_digit d (list_all is_ascii_digit ds) h).1 i

number_is_ascii : (w : List ℕ) → is_number w ≡ true → IsAscii w
number_is_ascii w h = digits_are_ascii w (grind (arith, nat_tests))

no_digits : (w : List ℕ) → ¬ (IsAscii w) → is_number w ≡ false
no_digits w h = go (is_number w) refl
  where
    go : (b : Bool) → is_number w ≡ b → b ≡ false
    go true is = absurd (h (number_is_ascii w is))
    go false is = refl

no_number_of : (w : List ℕ) → is_number w ≡ false → number_of 32 w ≡ None
unfolding number_of
no_number_of w h = rw h refl

minus_first : (w : List ℕ) → eqb (get_or w 0 0) 45 ≡ true → IsAscii (drop 1 w) → IsAscii w
minus_first w h low zero = let is : get_or w 0 0 ≡ 45 = grind (arith, nat_tests) in omega arith
minus_first [] h low (suc i) = lit< tt
minus_first (b ∷ w) h low (suc i) = low i

by_minus : (w : List ℕ) (b : Bool) → eqb (get_or w 0 0) 45 ≡ b → ¬ (IsAscii w) → None ≡ signed_of w
unfolding signed_of
by_minus w true is other =
    let none = no_number_of (drop 1 w) (no_digits (drop 1 w) (λ low. other (minus_first w is low))) in
    rw (is, none) refl
by_minus w false is other = let none = no_number_of w (no_digits w other) in rw (is, none) refl

pub no_number : (w : List ℕ) → ¬ (IsUtf8 w) → None ≡ signed_of w
no_number w h = by_minus w (eqb (get_or w 0 0) 45) refl (λ low. h (IsUtf8-from_ascii w low))
