-- The least of the numbers below a bound that pass a test.
use Rattle.std.proofs.Common.{◌≡◌, ◌∷◌, ◌+◌, ◌<◌, ◌≤◌, ℕ, Bool, None, Option, Some, ap, arith, cond, false}
use Rattle.std.proofs.Common.{inl, inr, refl, subst, suc, sym, true, zero}
use Rattle.std.proofs.lemmas.Bool.Decides.{eqb_tells, nat_tests}
use Rattle.std.specs.Prelude.{IfSome, filter, nat_lt}
use Rattle.model.specs.Words.{least, lesser, numbers_from}

module _ (test : ℕ → Bool) where
  -- where none passes, there is no least
  pub least_nothing : (from n : ℕ) → ((k : ℕ) → from ≤ k → k < from + n → test k ≡ false)
      → least (filter test (numbers_from from n)) ≡ None
  least_nothing from zero none = refl
  least_nothing from (suc n) none =
      rw (none from (omega arith) (omega arith))
      (least_nothing (from + 1) n (λ k low high. none k (omega arith) (omega arith)))

  -- none is below the first
  none_lower : (from n : ℕ) → IfSome (least (filter test (numbers_from from n))) (λ m. from ≤ m)
  none_lower from zero = tt
  none_lower from (suc n) = go (test from) (none_lower (from + 1) n)
    where
      lower : (o : Option ℕ) → IfSome o (λ m. from + 1 ≤ m) → from ≤ lesser from o
      lower None h = omega arith
      lower (Some m) h = grind (arith, nat_tests)

      weaker : (o : Option ℕ) → IfSome o (λ m. from + 1 ≤ m) → IfSome o (λ m. from ≤ m)
      weaker None h = tt
      weaker (Some m) h = omega arith

      go : (b : Bool) → IfSome (least (filter test (numbers_from (from + 1) n))) (λ m. from + 1 ≤ m)
          → IfSome (least (cond b (from ∷ filter test (numbers_from (from + 1) n))
          (filter test (numbers_from (from + 1) n)))) (λ m. from ≤ m)
      go true h = lower (least (filter test (numbers_from (from + 1) n))) h
      go false h = weaker (least (filter test (numbers_from (from + 1) n))) h

  -- the first that passes is the least
  pub least_first : (from n w : ℕ) → from ≤ w → w < from + n → ((k : ℕ) → from ≤ k → k < w → test k ≡ false)
      → test w ≡ true → least (filter test (numbers_from from n)) ≡ Some w
  least_first from zero w low high none here = absurd (omega arith)
  least_first from (suc n) w low high none here =
      elim (eqb_tells from w) [
        | inl e ↦
            subst (λ v. least (filter test (numbers_from v (suc n))) ≡ Some w) (sym e.1)
            (rw here (first (least (filter test (numbers_from (w + 1) n))) (none_lower (w + 1) n)))
        | inr e ↦
            rw (none from (omega arith) (omega (arith, e.1)))
            (least_first (from + 1) n w (omega (arith, e.1)) (omega arith) (λ k l h. none k (omega arith) h) here)
      ]
    where
      first : (o : Option ℕ) → IfSome o (λ m. w + 1 ≤ m) → Some (lesser w o) ≡ Some w
      first None h = refl
      first (Some m) h = ap Some (at m h)
        where
          at : (m : ℕ) → w + 1 ≤ m → cond (nat_lt m w) m w ≡ w
          at m h = grind (arith, nat_tests)
