-- Digits that were written are read back.
use Rattle.std.proofs.Common.{◌≡◌, ◌<◌, ◌≤◌, ◌+◌, ◌-◌, ◌*◌, ◌/◌, ◌%◌, ℕ, suc, Bool, true, false, ◌&&◌, List, [], ◌∷◌, Some, None, length}
use Rattle.std.proofs.Common.{refl, ap, sym, ◌∙◌, arith, eqb, option_map, if◌then◌else◌}
use Rattle.std.specs.Prelude.{nat_le, nat_lt, option_and_then, flat_map}
use Rattle.std.specs.List.{list_all}
use Rattle.std.proofs.lemmas.Bool.Decides.{nat_tests}
use Rattle.lemmas.proofs.Numbers.{suc_not_zero}
use Rattle.history_script.specs.Digits.{byte_digits, byte_of, bytes_of, digit, digits_of, is_byte, some_bytes, value_of}

value_digit : (n : ℕ) → n < 16 → value_of (digit n) ≡ Some n
value_digit n h = go (nat_lt n 10) refl
  where
    go : (b : Bool) → nat_lt n 10 ≡ b → value_of (if b then 48 + n else (87 + n)) ≡ Some n
    go true is =
        let low : n < 10 = grind (arith, nat_tests) in
        let first : (nat_le 48 (48 + n) && nat_le (48 + n) 57) ≡ true = grind (arith, nat_tests) in
        let same : 48 + n - 48 ≡ n = omega arith in
        rw (first, same) refl
    go false is =
        let high : 10 ≤ n = grind (arith, nat_tests) in
        let first : (nat_le 48 (87 + n) && nat_le (87 + n) 57) ≡ false = grind (arith, nat_tests) in
        let second : (nat_le 97 (87 + n) && nat_le (87 + n) 102) ≡ true = grind (arith, nat_tests) in
        let same : 87 + n - 87 ≡ n = omega arith in
        rw (first, second, same) refl

byte_back : (b : ℕ) → b < 256 → byte_of (digit (b / 16)) (digit (b % 16)) ≡ Some b
byte_back b h =
    let high = value_digit (b / 16) (omega (arith, h)) in
    let low = value_digit (b % 16) (omega arith) in
    let same : 16 * (b / 16) + b % 16 ≡ b = omega arith in
    ap (λ o. option_and_then (λ x. option_map (λ y. 16 * x + y) (value_of (digit (b % 16)))) o) high
    ∙ ap (λ o. option_map (λ y. 16 * (b / 16) + y) o) low ∙ ap Some same

bytes_back : (bytes : List ℕ) → list_all is_byte bytes ≡ true → bytes_of (flat_map byte_digits bytes) ≡ Some bytes
unfolding bytes_of
bytes_back [] all = refl
bytes_back (b ∷ bytes) all = go (nat_lt b 256) refl (bytes_back bytes)
  where
    go : (t : Bool) → nat_lt b 256 ≡ t
        → (list_all is_byte bytes ≡ true → bytes_of (flat_map byte_digits bytes) ≡ Some bytes)
        → bytes_of (flat_map byte_digits (b ∷ bytes)) ≡ Some (b ∷ bytes)
    go true is rest =
        let small : b < 256 = grind (arith, nat_tests) in
        let others : list_all is_byte bytes ≡ true = sym (ap (λ t. t && list_all is_byte bytes) is) ∙ all in
        ap (λ o. option_and_then (λ byte. option_map (λ l. byte ∷ l) (bytes_of (flat_map byte_digits bytes))) o)
        (byte_back b small)
        ∙ ap (λ o. option_map (λ l. b ∷ l) o) (rest others)
    go false is rest =
        absurd (let other : false ≡ true = sym (ap (λ t. t && list_all is_byte bytes) is) ∙ all in cc)

pub digits_back : (bytes : List ℕ) → list_all is_byte bytes ≡ true → 0 < length bytes
    → some_bytes (digits_of bytes) ≡ Some bytes
unfolding some_bytes digits_of
digits_back [] all some = absurd (omega (arith, some))
digits_back (b ∷ bytes) all some =
    let long : eqb (length (flat_map byte_digits (b ∷ bytes))) 0 ≡ false =
    suc_not_zero (suc (length (flat_map byte_digits bytes))) in
    ap (λ t. if t then None else bytes_of (flat_map byte_digits (b ∷ bytes))) long ∙ bytes_back (b ∷ bytes) all
