-- What holds of natural numbers and of how they compare.
use Rattle.std.proofs.Common.{List, [], ap, arith, cond, eqb, false, inl, inr, nat_le, nat_lt, refl, suc}
use Rattle.std.proofs.Common.{sym, true, ℕ, ◌+◌, ◌-◌, ◌<◌, ◌==◌, ◌∙◌, ◌∷◌, ◌≡◌, ◌≢◌, ◌≤◌, ◌⊎◌}
use Rattle.std.proofs.lemmas.Bool.Decides.{eqb_tells, leb_tells, nat_tests}
use Rattle.std.specs.List.{range_with_len}
use Rattle.std.specs.Ordering.{match_ordering, nat_cmp}

-- a choice by the order of two numbers asks for equality first, and then which is less
pub key_compared : (k x : ℕ) (a b c : List ℕ) → match_ordering (nat_cmp k x) a b c ≡ cond (k == x) b (cond (nat_lt k x) a c)
key_compared k x a b c = grind (arith, nat_tests)

-- a number below the next one is below this one, or is this one
pub below_or_last : (k i : ℕ) → k < i + 1 → (k < i) ⊎ (k ≡ i)
below_or_last k i h = grind arith

-- a number is below another one, or is at least the other
pub below_or_not : (m n : ℕ) → (m < n) ⊎ (n ≤ m)
below_or_not m n = grind arith

-- one place further, what is left is one less
pub minus_further : (i n : ℕ) → i < n → n - i ≡ suc (n - (i + 1))
minus_further i n h = omega (arith, h)

-- a lesser number compares as less
pub lt_told : (a b : ℕ) → a < b → nat_lt a b ≡ true
lt_told a b low = grind (arith, nat_tests)

-- a range that is not empty begins with its first number
pub range_first : (a b : ℕ) → a < b → range_with_len a (b - a) ≡ a ∷ range_with_len (a + 1) (b - (a + 1))
range_first a b below = let e : b - a ≡ suc (b - (a + 1)) = omega arith in ap (range_with_len a) e

-- numbers that differ compare as different
pub eq_apart : (a b : ℕ) → a ≢ b → (a == b) ≡ false
eq_apart a b apart = elim (eqb_tells a b) [ inl e ↦ absurd (apart e.1) | inr o ↦ o.0 ]

-- a number that is at most another compares so
pub le_told : (a b : ℕ) → a ≤ b → nat_le a b ≡ true
le_told a b h = elim (leb_tells a b) [ inl t ↦ t.0 | inr t ↦ let less = t.1 in absurd (omega (arith, h, less)) ]

-- a greater number does not compare as at most the other
pub le_refused : (a b : ℕ) → b + 1 ≤ a → nat_le a b ≡ false
le_refused a b h = elim (leb_tells a b) [ inl t ↦ let less = t.1 in absurd (omega (arith, h, less)) | inr t ↦ t.0 ]

-- at the end nothing is left
pub minus_nothing : (i n : ℕ) → n ≤ i → n - i ≡ 0
minus_nothing i n h = omega (arith, h)

-- a range that begins at its end is empty
pub range_none : (a b : ℕ) → b ≤ a → range_with_len a (b - a) ≡ []
range_none a b above = let e : b - a ≡ 0 = omega arith in ap (range_with_len a) e

-- the sides of a comparison change places
pub eq_turned : (a b : ℕ) → (a == b) ≡ (b == a)
eq_turned a b = grind arith

-- numbers that compare as equal are one
pub eq_tells : (a b : ℕ) → (a == b) ≡ true → a ≡ b
eq_tells a b h = elim (eqb_tells a b) [ inl e ↦ e.1 | inr e ↦ (let no : true ≡ false = sym h ∙ e.0 in cc) ]

-- numbers that cannot be one compare as different
pub eq_refused : (a b : ℕ) → (a ≡ b → ⊥) → (a == b) ≡ false
eq_refused a b h = elim (eqb_tells a b) [ inl e ↦ absurd (h e.1) | inr e ↦ e.0 ]

-- the sides of a comparison change places
pub eqb_turned : (a b : ℕ) → eqb a b ≡ eqb b a
eqb_turned a b =
    elim (eqb_tells a b) [
      | inl e ↦ elim (eqb_tells b a) [ inl f ↦ e.0 ∙ sym f.0 | inr f ↦ absurd (f.1 (sym e.1)) ]
      | inr e ↦ elim (eqb_tells b a) [ inl f ↦ absurd (e.1 (sym f.1)) | inr f ↦ e.0 ∙ sym f.0 ]
    ]

-- numbers that compare as equal are one
pub number_tells : (a b : ℕ) → eqb a b ≡ true → a ≡ b
number_tells a b h = elim (eqb_tells a b) [ inl e ↦ e.1 | inr e ↦ absurd (cc) ]

-- where a comparison as at most fails, the other number is less
pub le_false : (m n : ℕ) → nat_le m n ≡ false → n < m
le_false m n h = grind (arith, nat_tests)

-- where a comparison as at most holds, the first number is at most the second
pub le_true : (m n : ℕ) → nat_le m n ≡ true → m ≤ n
le_true m n h = grind (arith, nat_tests)

-- where a comparison as at most holds, the second number is at least the first
pub le_true_turned : (m n : ℕ) → nat_le n m ≡ true → n ≤ m
le_true_turned m n h = grind (arith, nat_tests)

-- a number compares as equal to itself
pub eq_itself : (n : ℕ) → (n == n) ≡ true
eq_itself n = elim (eqb_tells n n) [ inl e ↦ e.0 | inr o ↦ absurd (o.1 refl) ]

-- one before a number is one behind it
pub one_plus : (i : ℕ) → 1 + i ≡ i + 1
one_plus i = omega arith

-- a number compares as equal to itself
pub number_itself : (c : ℕ) → eqb c c ≡ true
number_itself c = grind (arith, nat_tests)

-- a number that has one before it does not compare as zero
pub suc_not_zero : (n : ℕ) → eqb (suc n) 0 ≡ false
suc_not_zero n = grind (arith, nat_tests)

-- no number is less than itself
pub lt_itself : (n : ℕ) → nat_lt n n ≡ false
lt_itself n = grind (arith, nat_tests)
