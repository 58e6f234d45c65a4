-- Lists and tests over the numbers below a bound.
use Rattle.std.proofs.Common.{◌≡◌, ◌+◌, ◌<◌, ◌≤◌, ℕ, Bool, None, Some, ap, arith}
use Rattle.std.proofs.Common.{◌||◌, cond, false, find, inl, inr, refl, subst, suc, sym, true, zero, ◌∙◌}
use Rattle.std.proofs.lemmas.Bool.Decides.{eqb_tells}
use Rattle.std.specs.List.{list_any}
use Rattle.model.specs.Words.{numbers_from}

module _ (test : ℕ → Bool) where
  -- where none passes, none is found
  pub find_nothing : (from n : ℕ) → ((k : ℕ) → from ≤ k → k < from + n → test k ≡ false)
      → find test (numbers_from from n) ≡ None
  find_nothing from zero none = refl
  find_nothing from (suc n) none =
      rw (none from (omega arith) (omega arith))
      (find_nothing (from + 1) n (λ k low high. none k (omega arith) (omega arith)))

  -- the first that passes is found
  pub find_first : (from n w : ℕ) → from ≤ w → w < from + n → ((k : ℕ) → from ≤ k → k < w → test k ≡ false)
      → test w ≡ true → find test (numbers_from from n) ≡ Some w
  find_first from zero w low high none here = absurd (omega arith)
  find_first from (suc n) w low high none here =
      elim (eqb_tells from w) [
        | inl e ↦ subst (λ v. find test (numbers_from v (suc n)) ≡ Some w) (sym e.1)
            (subst (λ b. cond b (Some w) (find test (numbers_from (w + 1) n)) ≡ Some w) (sym here) refl)
        | inr e ↦
            rw (none from (omega arith) (omega (arith, e.1)))
            (find_first (from + 1) n w (omega (arith, e.1)) (omega arith) (λ k l h. none k (omega arith) h) here)
      ]

  -- where none is found, none passes
  pub nothing_found : (from n k : ℕ) → find test (numbers_from from n) ≡ None → from ≤ k → k < from + n
      → test k ≡ false
  nothing_found from zero k none low high = absurd (omega arith)
  nothing_found from (suc n) k none low high =
      elim (eqb_tells from k) [
        | inl e ↦ subst (λ v. test v ≡ false) e.1 (here (test from) refl)
        | inr e ↦ nothing_found (from + 1) n k (rest (test from) none) (omega (arith, e.1)) (omega arith)
      ]
    where
      here : (b : Bool) → test from ≡ b → test from ≡ false
      here true e =
          let found : Some from ≡ None =
          sym (ap (λ b. cond b (Some from) (find test (numbers_from (from + 1) n))) e) ∙ none in
          cc
      here false e = e

      rest : (b : Bool) → cond b (Some from) (find test (numbers_from (from + 1) n)) ≡ None
          → find test (numbers_from (from + 1) n) ≡ None
      rest true h = cc
      rest false h = h

  -- where none passes, there is not any
  pub any_nothing : (from n : ℕ) → ((k : ℕ) → from ≤ k → k < from + n → test k ≡ false)
      → list_any test (numbers_from from n) ≡ false
  any_nothing from zero none = refl
  any_nothing from (suc n) none =
      rw (none from (omega arith) (omega arith))
      (any_nothing (from + 1) n (λ k low high. none k (omega arith) (omega arith)))

  -- where one passes, there is one
  pub any_here : (from n w : ℕ) → from ≤ w → w < from + n → test w ≡ true
      → list_any test (numbers_from from n) ≡ true
  any_here from zero w low high here = absurd (omega arith)
  any_here from (suc n) w low high here =
      elim (eqb_tells from w) [
        | inl e ↦ rw (ap test e.1 ∙ here) refl
        | inr e ↦ later (test from) (any_here (from + 1) n w (omega (arith, e.1)) (omega arith) here)
      ]
    where
      later : (b : Bool) → list_any test (numbers_from (from + 1) n) ≡ true
          → (b || list_any test (numbers_from (from + 1) n)) ≡ true
      later true h = refl
      later false h = h
