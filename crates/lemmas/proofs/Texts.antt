-- What holds of texts as lists of bytes.
use Rattle.std.proofs.Common.{Bool, IsUtf8, List, [], ap, arith, bytes_eq, eqb, false, get_or, length, length-append}
use Rattle.std.proofs.Common.{refl, rules, sym, true, ℕ, ◌++◌, ◌<◌, ◌∷◌, ◌≡◌, ◌≢◌}
use Rattle.std.proofs.Math.Seq.{drop-append_seam, get_or-append_seam, take-append_seam}
use Rattle.std.proofs.lemmas.Bool.Decides.{nat_tests}
use Rattle.std.proofs.lemmas.List.Splits.{length-slice_split}
use Rattle.std.proofs.lemmas.Str.{IsCharBoundary-after_ascii, IsCharBoundary-before_ascii, IsUtf8-drop, IsUtf8-take}
use Rattle.std.proofs.lemmas.Str.Parse.{IsNumeralModel, numerals_by_value}
use Rattle.std.specs.Char.{is_ascii_digit}
use Rattle.std.specs.Cmp.Lexicographic.{bytes_decides}
use Rattle.std.specs.List.{list_all, slice_split}
use Rattle.std.specs.Str.Parse.{digits_value}

-- a text is cut in front of a byte of ASCII
pub utf8_before : (xs ys : List ℕ) (b : ℕ) → b < 128 → IsUtf8 (xs ++ b ∷ ys) → IsUtf8 xs × IsUtf8 (b ∷ ys)
utf8_before xs ys b h u =
    let long : length xs < length (xs ++ b ∷ ys) = omega (arith, length-append xs (b ∷ ys)) in
    let small : get_or (xs ++ b ∷ ys) (length xs) 0 < 128 = rw (get_or-append_seam xs b ys 0) h in
    let border = IsCharBoundary-before_ascii (xs ++ b ∷ ys) (length xs) long small in (
      rw (take-append_seam xs (b ∷ ys)) at (IsUtf8-take (xs ++ b ∷ ys) (length xs) u border),
      rw (drop-append_seam xs (b ∷ ys)) at (IsUtf8-drop (xs ++ b ∷ ys) (length xs) u border),
    )

-- the sides of a comparison of texts change places
pub bytes_turned : (a b : List ℕ) → bytes_eq a b ≡ bytes_eq b a
bytes_turned a b = go (bytes_eq a b) refl (bytes_eq b a) refl
  where
    go : (x : Bool) → bytes_eq a b ≡ x → (y : Bool) → bytes_eq b a ≡ y → x ≡ y
    go true e true h = refl
    go false e false h = refl
    go true e false h =
        let back : bytes_eq b a ≡ true = (bytes_decides b a).1 (sym ((bytes_decides a b).0 e)) in
        cc
    go false e true h =
        let back : bytes_eq a b ≡ true = (bytes_decides a b).1 (sym ((bytes_decides b a).0 h)) in
        cc

-- texts that compare as equal are one
pub text_tells : (a b : List ℕ) → bytes_eq a b ≡ true → a ≡ b
text_tells a b h = (bytes_decides a b).0 h

-- a text that does not begin with a minus has no minus at its first place
pub not_first : (w : List ℕ) → ((rest : List ℕ) → w ≢ 45 ∷ rest) → eqb (get_or w 0 0) 45 ≡ false
not_first [] h = refl
not_first (b ∷ w) h = let other : b ≢ 45 = λ e. h w (ap (λ x. x ∷ w) e) in grind (arith, nat_tests)

-- a text compares as equal to itself
pub text_itself : (w : List ℕ) → bytes_eq w w ≡ true
text_itself w = (bytes_decides w w).1 refl

-- behind a byte of ASCII a text is a text
pub utf8_after : (b : ℕ) (ys : List ℕ) → b < 128 → IsUtf8 (b ∷ ys) → IsUtf8 ys
utf8_after b ys h u = IsUtf8-drop (b ∷ ys) 1 u (IsCharBoundary-after_ascii (b ∷ ys) 0 u (omega arith) h)

-- a byte that is no quote does not compare as one
pub no_quote : (c : ℕ) → c ≢ 34 → eqb c 34 ≡ false
no_quote c h = grind (arith, nat_tests)

-- a text has at least one part
pub some_parts : (p : ℕ → Bool) (xs : List ℕ) → 0 < length (slice_split p xs)
some_parts p xs = let e = length-slice_split p xs in omega (arith, e)

-- digits are the numerals to the base ten
pub decimal_digits : IsNumeralModel (λ ds. list_all is_ascii_digit ds ≡ true) (digits_value 10)
decimal_digits = numerals_by_value _ (search rules)
