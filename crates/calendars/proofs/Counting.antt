-- One day further in a count of days that pass a test.
use Rattle.std.proofs.Common.{◌≡◌, ℕ, zero, suc, ◌+◌, ◌-◌, ◌<◌, ◌≤◌, Bool, true, false, List, [], ◌∷◌, filter, slice_get, Some, refl, arith}
use Rattle.std.specs.List.{range_with_len}
use Rattle.calendars.specs.Nth.{below}

range_by : (a n k : ℕ) → k ≡ suc n → range_with_len a k ≡ a ∷ range_with_len (a + 1) n
range_by a n k e = rw e refl

pub below-step : (n : ℕ) → 0 < n → below n ≡ (n - 1) ∷ below (n - 1)
unfolding below
below-step zero h = absurd (omega (arith, h))
below-step (suc n) h = let back : suc n - 1 ≡ n = omega arith in rw back refl

pub below-end : (n : ℕ) → n ≤ 0 → below n ≡ []
unfolding below
below-end zero h = refl
below-end (suc n) h = absurd (omega (arith, h))

nth_of_next : (x k : ℕ) (rest : List ℕ) → 0 < k → slice_get (x ∷ rest) k ≡ slice_get rest (k - 1)
nth_of_next x zero rest h = absurd (omega (arith, h))
nth_of_next x (suc k) rest h = let back : suc k - 1 ≡ k = omega arith in rw back refl

-- the day passes, and it is the one
pub counted_last : (p : ℕ → Bool) (all xs rest : List ℕ) (n k x : ℕ) → slice_get (filter p all) n ≡ slice_get (filter p xs) k
    → xs ≡ x ∷ rest → p x ≡ true → k ≡ 0 → Some x ≡ slice_get (filter p all) n
counted_last p all xs rest n k x before at pass last = rw (before, at, pass, last) refl

-- the day passes, and others are left
pub counted_one : (p : ℕ → Bool) (all xs rest : List ℕ) (n k x : ℕ) → slice_get (filter p all) n ≡ slice_get (filter p xs) k
    → xs ≡ x ∷ rest → p x ≡ true → 0 < k → slice_get (filter p all) n ≡ slice_get (filter p rest) (k - 1)
counted_one p all xs rest n k x before at pass more = rw (before, at, pass) (nth_of_next x k (filter p rest) more)

-- the day does not pass
pub counted_none : (p : ℕ → Bool) (all xs rest : List ℕ) (n k x : ℕ) → slice_get (filter p all) n ≡ slice_get (filter p xs) k
    → xs ≡ x ∷ rest → p x ≡ false → slice_get (filter p all) n ≡ slice_get (filter p rest) k
counted_none p all xs rest n k x before at pass = rw (before, at, pass) refl
