-- The days of a range that pass a test.
use Rattle.std.proofs.Common.{◌≡◌, ◌≢◌, ℕ, zero, suc, ◌+◌, ◌-◌, ◌<◌, ◌≤◌, ◌&&◌, ◌||◌, ◌==◌, Bool, true, false, cond, nat_le, nat_lt, min}
use Rattle.std.proofs.Common.{List, [], ◌∷◌, ◌++◌, append_assoc, append-nil, filter, inl, inr, refl, sym, ap, ◌∙◌, arith}
use Rattle.std.proofs.lemmas.Bool.Decides.{eqb_tells, nat_tests}
use Rattle.std.specs.List.{range_with_len}
use Rattle.calendars.specs.Sets.{has}

-- the first of three tests, and the last
third_false : (x y z : Bool) → z ≡ false → (x && (y && z)) ≡ false
third_false true true z h = h
third_false true false z h = refl
third_false false y z h = refl

none_between : (a q : ℕ) (z : Bool) → (nat_le a q && (nat_lt q (a + 0) && z)) ≡ false
none_between a q z = go (nat_le a q) (nat_lt q (a + 0)) refl refl
  where
    go : (x y : Bool) → nat_le a q ≡ x → nat_lt q (a + 0) ≡ y → (x && (y && z)) ≡ false
    go true true h k =
        let low : a ≤ q = grind (arith, nat_tests) in
        let high : q < a + 0 = grind (arith, nat_tests) in
        absurd (omega (arith, low, high))
    go true false h k = refl
    go false y h k = refl

same_low : (a q : ℕ) → q ≢ a → nat_le (a + 1) q ≡ nat_le a q
same_low a q apart = grind (arith, nat_tests)

le_self : (a q : ℕ) → q ≡ a → nat_le a q ≡ true
le_self a q same = grind (arith, nat_tests)

le_next : (a q : ℕ) → q ≡ a → nat_le (a + 1) q ≡ false
le_next a q same = grind (arith, nat_tests)

lt_more : (a q len : ℕ) → q ≡ a → nat_lt q (a + suc len) ≡ true
lt_more a q len same = let less : q < a + suc len = omega (arith, same) in grind (arith, nat_tests)

-- the days of a range that pass a test
module _ (p : ℕ → Bool) where
  pub in_filter : (len a q : ℕ) → has (filter p (range_with_len a len)) q ≡ (nat_le a q && (nat_lt q (a + len) && p q))
  in_filter zero a q = sym (none_between a q (p q))
  in_filter (suc len) a q =
      elim (eqb_tells q a) [
        | inl e ↦ here (p a) refl e.0 e.1 (in_filter len (a + 1) q)
        | inr o ↦ there (p a) o.0 o.1 (in_filter len (a + 1) q)
      ]
    where
      more : a + 1 + len ≡ a + suc len
      more = omega arith

      here : (b : Bool) → p a ≡ b → (q == a) ≡ true → q ≡ a
          → has (filter p (range_with_len (a + 1) len)) q ≡ (nat_le (a + 1) q && (nat_lt q (a + 1 + len) && p q))
          → has (cond b (a ∷ filter p (range_with_len (a + 1) len)) (filter p (range_with_len (a + 1) len))) q
          ≡ (nat_le a q && (nat_lt q (a + suc len) && p q))
      here true is told same behind =
          ap (λ c. c || has (filter p (range_with_len (a + 1) len)) q) told
          ∙ sym (λ i. le_self a q same i && (lt_more a q len same i && (ap p same ∙ is) i))
      here false is told same behind =
          behind
          ∙ (ap (λ c. c && (nat_lt q (a + 1 + len) && p q)) (le_next a q same)
          ∙ sym (third_false (nat_le a q) (nat_lt q (a + suc len)) (p q) (ap p same ∙ is)))

      there : (b : Bool) → (q == a) ≡ false → q ≢ a
          → has (filter p (range_with_len (a + 1) len)) q ≡ (nat_le (a + 1) q && (nat_lt q (a + 1 + len) && p q))
          → has (cond b (a ∷ filter p (range_with_len (a + 1) len)) (filter p (range_with_len (a + 1) len))) q
          ≡ (nat_le a q && (nat_lt q (a + suc len) && p q))
      there true told apart behind =
          ap (λ c. c || has (filter p (range_with_len (a + 1) len)) q) told
          ∙ (behind ∙ (λ i. same_low a q apart i && (nat_lt q (more i) && p q)))
      there false told apart behind =
          behind ∙ (λ i. same_low a q apart i && (nat_lt q (more i) && p q))

-- up to a day, or to the last of the calendar
same_bound : (from to last len day : ℕ) → len ≡ min to last + 1 - from → from ≤ day → day ≤ last
    → nat_lt day (from + len) ≡ nat_le day to
same_bound from to last len day is low high = by_test (nat_le day to) refl
  where
    by_test : (t : Bool) → nat_le day to ≡ t → nat_lt day (from + len) ≡ t
    by_test true e =
        let under : day ≤ to = grind (arith, nat_tests) in
        let inside : day < from + len = omega (arith, is, low, high, under) in grind (arith, nat_tests)
    by_test false e =
        let over : to < day = grind (arith, nat_tests) in
        let outside : from + len ≤ day = omega (arith, is, low, high, over) in grind (arith, nat_tests)

pub bounds_same : (from to last len day : ℕ) (r : Bool) → len ≡ min to last + 1 - from
    → (nat_le from day && (nat_lt day (from + len) && (nat_le day last && r)))
    ≡ (nat_le from day && (nat_le day to && (nat_le day last && r)))
bounds_same from to last len day r is = go (nat_le from day) (nat_le day last) refl refl
  where
    go : (x y : Bool) → nat_le from day ≡ x → nat_le day last ≡ y
        → (x && (nat_lt day (from + len) && (y && r))) ≡ (x && (nat_le day to && (y && r)))
    go false y h k = refl
    go true false h k =
        third_false true (nat_lt day (from + len)) false refl ∙ sym (third_false true (nat_le day to) false refl)
    go true true h k =
        let low : from ≤ day = grind (arith, nat_tests) in
        let high : day ≤ last = grind (arith, nat_tests) in
        ap (λ c. c && r) (same_bound from to last len day is low high)

one_less : (day end : ℕ) → day < end → end - day ≡ suc (end - (day + 1))
one_less day end low = omega (arith, low)

-- a walk over a range that takes these days, one day further
module _ (p : ℕ → Bool) (all : List ℕ) where
  pub put_day : (day end : ℕ) (old new : List ℕ) → day < end → p day ≡ true → new ≡ old ++ day ∷ []
      → all ≡ old ++ filter p (range_with_len day (end - day))
      → all ≡ new ++ filter p (range_with_len (day + 1) (end - (day + 1)))
  put_day day end old new low passes grown h =
      let rest = filter p (range_with_len (day + 1) (end - (day + 1))) in
      h
      ∙ (ap (λ (k : ℕ). old ++ filter p (range_with_len day k)) (one_less day end low)
      ∙ (ap (λ (b : Bool). old ++ cond b (day ∷ rest) rest) passes
      ∙ (sym (append_assoc old (day ∷ []) rest) ∙ ap (λ (l : List ℕ). l ++ rest) (sym grown))))

  pub skip_day : (day end : ℕ) (old : List ℕ) → day < end → p day ≡ false
      → all ≡ old ++ filter p (range_with_len day (end - day))
      → all ≡ old ++ filter p (range_with_len (day + 1) (end - (day + 1)))
  skip_day day end old low passes h =
      let rest = filter p (range_with_len (day + 1) (end - (day + 1))) in
      h
      ∙ (ap (λ (k : ℕ). old ++ filter p (range_with_len day k)) (one_less day end low)
      ∙ ap (λ (b : Bool). old ++ cond b (day ∷ rest) rest) passes)

  pub no_more : (day end : ℕ) (old : List ℕ) → end ≤ day → all ≡ old ++ filter p (range_with_len day (end - day))
      → old ≡ all
  no_more day end old past h =
      let left : end - day ≡ 0 = omega (arith, past) in
      sym (h ∙ (ap (λ (k : ℕ). old ++ filter p (range_with_len day k)) left ∙ append-nil old))
