-- Walks down from a day, and runs of free days.
use Rattle.std.proofs.Common.{◌≡◌, ℕ, zero, suc, ◌+◌, ◌-◌, ◌<◌, ◌≤◌, ◌&&◌, ◌||◌, Bool, true, false, cond, take_while, [], ◌∷◌}
use Rattle.std.proofs.Common.{refl, sym, ap, ◌∙◌, arith, inl, inr}
use Rattle.std.proofs.lemmas.Bool.Decides.{eqb_tells}
use Rattle.std.proofs.lemmas.List.Sums.{take_while-cons}
use Rattle.std.specs.List.{list_any}
use Rattle.calendars.specs.Nth.{below}

pub below-zero : (q : ℕ → Bool) → list_any q (below zero) ≡ false
unfolding below
below-zero q = refl

pub below-suc : (q : ℕ → Bool) (n : ℕ) → list_any q (below (suc n)) ≡ (q n || list_any q (below n))
unfolding below
below-suc q n = refl

-- tests that are the same of all the numbers below
pub alike : (p q : ℕ → Bool) (n : ℕ) → ((m : ℕ) → m < n → p m ≡ q m) → list_any p (below n) ≡ list_any q (below n)
alike p q zero h = below-zero p ∙ sym (below-zero q)
alike p q (suc n) h =
    below-suc p n
    ∙ (ap (λ b. b || list_any p (below n)) (h n (omega arith))
    ∙ (ap (λ b. q n || b) (alike p q n (λ m low. h m (omega (arith, low)))) ∙ sym (below-suc q n)))

-- where none above a number passes, those below it and itself are left
pub split : (q : ℕ → Bool) (n day : ℕ) → day < n → ((m : ℕ) → day < m → q m ≡ false)
    → list_any q (below n) ≡ (q day || list_any q (below day))
split q zero day h above = absurd (omega (arith, h))
split q (suc n) day h above =
    elim (eqb_tells n day) [
      | inl e ↦ below-suc q n ∙ ap (λ k. q k || list_any q (below k)) e.1
      | inr e ↦
          (let low : day < n = omega (arith, h, e.1) in
          below-suc q n ∙ (ap (λ b. b || list_any q (below n)) (above n low) ∙ split q n day low above))
    ]

-- so many days from one on are free
module _ (free : ℕ → Bool) where
  abbrev pub all_free : ℕ → ℕ → Bool
  all_free a zero = true
  all_free a (suc k) = free a && all_free (a + 1) k

  and_false : (b : Bool) → (b && false) ≡ false
  and_false true = refl
  and_false false = refl

  -- a day among them that is not free
  pub broken : (k a j : ℕ) → free (a + k) ≡ false → k < j → all_free a j ≡ false
  broken k a zero at low = absurd (omega (arith, low))
  broken zero a (suc j) at low =
      let here : a ≡ a + 0 = omega arith in
      ap (λ b. b && all_free (a + 1) j) (ap free here ∙ at)
  broken (suc k) a (suc j) at low =
      let next : a + 1 + k ≡ a + suc k = omega arith in
      ap (λ b. free a && b) (broken k (a + 1) j (ap free next ∙ at) (omega (arith, low))) ∙ and_false (free a)

-- a run of free days before a day, one day further
module _ (free dated : ℕ → Bool) where
  pub run_seen : (n : ℕ) → 0 < n → list_any dated (take_while free (below n))
      ≡ (free (n - 1) && (dated (n - 1) || list_any dated (take_while free (below (n - 1)))))
  unfolding below
  run_seen zero some = absurd (omega (arith, some))
  run_seen (suc n) some =
      let back : suc n - 1 ≡ n = omega arith in
      ap (list_any dated) (take_while-cons free n (below n))
      ∙ (go (free n) ∙ sym (ap (λ k. free k && (dated k || list_any dated (take_while free (below k)))) back))
    where
      go : (b : Bool) → list_any dated (cond b (n ∷ take_while free (below n)) [])
          ≡ (b && (dated n || list_any dated (take_while free (below n))))
      go true = refl
      go false = refl

  pub run_none : (n : ℕ) → n ≤ 0 → list_any dated (take_while free (below n)) ≡ false
  unfolding below
  run_none zero h = refl
  run_none (suc n) h = absurd (omega (arith, h))
