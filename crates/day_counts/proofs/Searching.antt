-- Searching among ascending days.
use Rattle.std.proofs.Common.{◌≡◌, ℕ, zero, suc, ◌+◌, ◌-◌, ◌<◌, ◌≤◌, ◌&&◌, ◌||◌, Bool, true, false, nat_le, nat_lt, List, [], ◌∷◌, length, get_or, slice_index}
use Rattle.std.proofs.Common.{refl, sym, ap, subst, ◌∙◌, arith, inl, inr, le-leb, le-ltb, lt-ltb}
use Rattle.std.proofs.lemmas.Bool.{cases_lt}
use Rattle.std.proofs.lemmas.List.{get_or_default}
use Rattle.std.proofs.lemmas.List.Sorted.{IsNonDecreasingBy-from_default}
use Rattle.std.specs.List.{list_any}
use Rattle.std.specs.List.Sorted.{IsNonDecreasingBy, IsStrictlyIncreasing}
use Rattle.lemmas.proofs.Booleans.{and_false, or_true}
use Rattle.lemmas.proofs.Numbers.{le_refused}
use Rattle.day_counts.specs.Counts.{is_between}

ascends : (xs : List ℕ) → IsStrictlyIncreasing xs → (i k : ℕ) → i + k < length xs → slice_index xs i ≤ slice_index xs (i + k)
ascends xs up i zero low = let same : i ≡ i + 0 = omega arith in omega (arith, ap (slice_index xs) same)
ascends xs up i (suc k) low =
    let further : i + k + 1 ≡ i + suc k = omega arith in
    let before : slice_index xs i ≤ slice_index xs (i + k) = ascends xs up i k (omega (arith, low)) in
    let next : slice_index xs (i + k) < slice_index xs (i + k + 1) = up (i + k) (omega (arith, low)) in
    omega (arith, before, next, ap (slice_index xs) further)

-- by a number that rises with the day
pub ordered : (f : ℕ → ℕ) → ((a b : ℕ) → a ≤ b → f a ≤ f b) → (xs : List ℕ) → IsStrictlyIncreasing xs
    → IsNonDecreasingBy f xs
ordered f rises xs up =
    IsNonDecreasingBy-from_default f xs 0
    (λ i j least low.
    let sum : i + (j - i) ≡ j = omega (arith, least) in
    let here : slice_index xs i ≤ slice_index xs (i + (j - i)) = ascends xs up i (j - i) (omega (arith, least, low)) in
    rises (slice_index xs i) (slice_index xs j) (subst (λ m. slice_index xs i ≤ slice_index xs m) sum here))

pub any_none : (q : ℕ → Bool) (xs : List ℕ) → ((k d : ℕ) → k < length xs → q (get_or xs k d) ≡ false)
    → list_any q xs ≡ false
any_none q [] none = refl
any_none q (x ∷ xs) none =
    ap (λ b. b || list_any q xs) (none 0 0 (omega arith))
    ∙ any_none q xs (λ k d low. none (suc k) d (omega (arith, low)))

any_at : (q : ℕ → Bool) (xs : List ℕ) (i d : ℕ) → i < length xs → q (get_or xs i d) ≡ true → list_any q xs ≡ true
any_at q [] i d low is = absurd (omega (arith, low))
any_at q (x ∷ xs) zero d low is = ap (λ b. b || list_any q xs) is
any_at q (x ∷ xs) (suc i) d low is = ap (λ b. q x || b) (any_at q xs i d (omega (arith, low)) is) ∙ or_true (q x)

too_low : (a b c : ℕ) → c < a → is_between a b c ≡ false
too_low a b c low = ap (λ t. t && nat_lt c b) (le_refused a c (omega (arith, low)))

too_high : (a b c : ℕ) → b ≤ c → is_between a b c ≡ false
too_high a b c high = ap (λ t. nat_le a c && t) (le-ltb c b high) ∙ and_false (nat_le a c)

module _ (f : ℕ → ℕ) (xs : List ℕ) (low high i : ℕ)
    (before : (k d : ℕ) → k < i → f (get_or xs k d) < low)
    (from : (k d : ℕ) → i ≤ k → k < length xs → low ≤ f (get_or xs k d)) where
  -- all of them are too low
  pub none_left : length xs ≤ i → false ≡ list_any (λ date. is_between low high (f date)) xs
  none_left over =
      sym
      (any_none (λ date. is_between low high (f date)) xs
      (λ k d there.
      let less : f (get_or xs k d) < low = before k d (omega (arith, over, there)) in
      too_low low high (f (get_or xs k d)) less))

  -- the first that is not too low tells
  pub first_tells : IsNonDecreasingBy f xs → (x : ℕ) → i < length xs → x ≡ get_or xs i x
      → nat_lt (f x) high ≡ list_any (λ date. is_between low high (f date)) xs
  first_tells up x there is =
      elim (cases_lt (f x) high) [
        | inl less ↦
            (let least : low ≤ f (get_or xs i x) = from i x (omega arith) there in
            let same : f x ≡ f (get_or xs i x) = ap f is in
            let low_test : nat_le low (f (get_or xs i x)) ≡ true = le-leb low (f (get_or xs i x)) least in
            let high_test : nat_lt (f (get_or xs i x)) high ≡ true =
            lt-ltb (f (get_or xs i x)) high (omega (arith, same, less)) in
            lt-ltb (f x) high less
            ∙ sym
            (any_at (λ date. is_between low high (f date)) xs i x there (λ j. low_test j && high_test j)))
        | inr more ↦
            le-ltb (f x) high more
            ∙ sym
            (any_none (λ date. is_between low high (f date)) xs
            (λ k d within.
            elim (cases_lt k i) [
              | inl less ↦ too_low low high (f (get_or xs k d)) (before k d less)
              | inr further ↦
                  (let over : f (get_or xs i d) ≤ f (get_or xs k d) = up i k d further within in
                  let same : f (get_or xs i d) ≡ f x = ap f (same_there d) in
                  too_high low high (f (get_or xs k d)) (omega (arith, over, same, more)))
            ]))
      ]
    where
      same_there : (d : ℕ) → get_or xs i d ≡ x
      same_there d = get_or_default xs i d x there ∙ sym is
