-- Whether a range has a day that passes a test.
use Rattle.std.proofs.Common.{◌≡◌, ℕ, zero, suc, ◌+◌, ◌-◌, ◌<◌, ◌≤◌, ◌||◌, Bool, true, false, nat_lt, List, [], ◌∷◌}
use Rattle.std.proofs.Common.{Option, Some, None, refl, sym, ap, subst, ◌∙◌, arith, inl, inr, eqb, le-ltb, lt-ltb}
use Rattle.std.proofs.lemmas.Bool.{cases_lt}
use Rattle.std.proofs.lemmas.Bool.Decides.{nat_tests}
use Rattle.std.specs.Cmp.{both_ways}
use Rattle.std.specs.List.{list_any, range_with_len}
use Rattle.lemmas.proofs.Booleans.{or_cases, or_false, or_middles, or_regroup, or_true}
use Rattle.lemmas.proofs.Numbers.{number_itself, number_tells}
use Rattle.model.specs.Words.{some_is}
use Rattle.day_counts.specs.Counts.{is_between, is_within}
use Rattle.day_counts.specs.Runs.{days_between}
use Rattle.day_counts.proofs.Weekdays.{one_if}

-- a day from one on and before another that passes
pub record IsThere (q : ℕ → Bool) (from end : ℕ) : Type 0 where
  pub day : ℕ
  pub low : from ≤ day
  pub high : day < end
  pub passes : q day ≡ true

there_by_len : (q : ℕ → Bool) (len from : ℕ) → list_any q (range_with_len from len) ≡ true → IsThere q from (from + len)
there_by_len q zero from h = absurd (let e : false ≡ true = h in cc)
there_by_len q (suc len) from h =
    elim (or_cases (q from) (list_any q (range_with_len (from + 1) len)) h) [
      | inl e ↦ record { day = from; low = omega arith; high = omega arith; passes = e }
      | inr e ↦
          (let rest : IsThere q (from + 1) (from + 1 + len) = there_by_len q len (from + 1) e in
          record {
            day = rest.day;
            low = omega (arith, rest.low);
            high = omega (arith, rest.high);
            passes = rest.passes;
          })
    ]

made_by_len : (q : ℕ → Bool) (len from day : ℕ) → from ≤ day → day < from + len → q day ≡ true
    → list_any q (range_with_len from len) ≡ true
made_by_len q zero from day low high is = absurd (omega (arith, low, high))
made_by_len q (suc len) from day low high is =
    elim (cases_lt from day) [
      | inl less ↦
          (let rest : list_any q (range_with_len (from + 1) len) ≡ true =
          made_by_len q len (from + 1) day (omega (arith, less)) (omega (arith, high)) is in
          ap (λ b. q from || b) rest ∙ or_true (q from))
      | inr more ↦
          (let same : day ≡ from = omega (arith, low, more) in
          ap (λ b. b || list_any q (range_with_len (from + 1) len)) (sym (ap q same) ∙ is))
    ]

pub there : (q : ℕ → Bool) (from end : ℕ) → list_any q (days_between from end) ≡ true → IsThere q from end
there q from end h =
    let found : IsThere q from (from + (end - from)) = there_by_len q (end - from) from h in
    record {
      day = found.day;
      low = found.low;
      high = omega (arith, found.low, found.high);
      passes = found.passes;
    }

pub made : (q : ℕ → Bool) (from end day : ℕ) → from ≤ day → day < end → q day ≡ true → list_any q (days_between from end) ≡ true
made q from end day low high is = made_by_len q (end - from) from day low (omega (arith, low, high)) is

-- a number that rises by one exactly where a day passes
module _ (u : ℕ → ℕ) (q : ℕ → Bool) (step : (n : ℕ) → u (suc n) ≡ u n + one_if (q n)) where
  climbs : (n k : ℕ) → u n ≤ u (n + k)
  climbs n zero = let same : n ≡ n + 0 = omega arith in omega (arith, ap u same)
  climbs n (suc k) =
      let next : suc (n + k) ≡ n + suc k = omega arith in
      omega (arith, climbs n k, step (n + k), ap u next)

  any_by_len : (len from : ℕ) → nat_lt (u from) (u (from + len)) ≡ list_any q (range_with_len from len)
  any_by_len zero from =
      let same : from + 0 ≡ from = omega arith in
      le-ltb (u from) (u (from + 0)) (omega (arith, ap u same))
  any_by_len (suc len) from = go (q from) refl (any_by_len len (from + 1))
    where
      next : u (from + 1) ≡ u (suc from)
      next = let same : from + 1 ≡ suc from = omega arith in ap u same

      last : u (from + 1 + len) ≡ u (from + suc len)
      last = let same : from + 1 + len ≡ from + suc len = omega arith in ap u same

      go : (b : Bool) → q from ≡ b
          → nat_lt (u (from + 1)) (u (from + 1 + len)) ≡ list_any q (range_with_len (from + 1) len)
          → nat_lt (u from) (u (from + suc len)) ≡ (b || list_any q (range_with_len (from + 1) len))
      go true is rest =
          lt-ltb (u from) (u (from + suc len))
          (omega (arith, next, last, step from, ap one_if is, climbs (from + 1) len))
      go false is rest =
          let first : u from ≡ u (from + 1) = omega (arith, next, step from, ap one_if is) in
          let end : u (from + suc len) ≡ u (from + 1 + len) = sym last in
          (λ i. nat_lt (first i) (end i)) ∙ rest

  pub any_between : (from end : ℕ) → nat_lt (u from) (u end) ≡ list_any q (days_between from end)
  any_between from end =
      elim (cases_lt end from) [
        | inl less ↦
            (let none : end - from ≡ 0 = omega (arith, less) in
            let sum : end + (from - end) ≡ from = omega (arith, less) in
            le-ltb (u from) (u end) (omega (arith, climbs end (from - end), ap u sum))
            ∙ sym (ap (λ k. list_any q (range_with_len from k)) none))
        | inr more ↦
            (let sum : from + (end - from) ≡ end = omega (arith, more) in
            subst (λ n. nat_lt (u from) (u n) ≡ list_any q (range_with_len from (end - from))) sum
            (any_by_len (end - from) from))
      ]

-- the last day of a range by itself
pub any_last : (q : ℕ → Bool) (len from : ℕ)
    → list_any q (range_with_len from (suc len)) ≡ (list_any q (range_with_len from len) || q (from + len))
any_last q zero from =
    let here : from ≡ from + 0 = omega arith in
    or_false (q from) ∙ ap q here
any_last q (suc len) from =
    let sum : from + 1 + len ≡ from + suc len = omega arith in
    ap (λ b. q from || b) (any_last q len (from + 1))
    ∙ (or_regroup (q from) (list_any q (range_with_len (from + 1) len)) (q (from + 1 + len))
    ∙ ap (λ n. (q from || list_any q (range_with_len (from + 1) len)) || q n) sum)

-- a day that may be there is one of a range
pub some_in_range : (found : Option ℕ) (from end : ℕ)
    → is_within from end found ≡ list_any (λ day. some_is found day) (days_between from end)
some_in_range None from end =
    both_ways false (list_any (λ day. false) (days_between from end)) (λ h. cc)
    (λ h. let one : IsThere (λ day. false) from end = there (λ day. false) from end h in absurd (let e : false ≡ true = one.passes in cc))
some_in_range (Some one) from end =
    both_ways (is_between from end one) (list_any (λ day. eqb one day) (days_between from end)) (λ h. forth h) (λ h. back h)
  where
    forth : is_between from end one ≡ true → list_any (λ day. eqb one day) (days_between from end) ≡ true
    forth h =
        let low : from ≤ one = grind (arith, nat_tests) in
        let high : one < end = grind (arith, nat_tests) in
        made (λ day. eqb one day) from end one low high (number_itself one)

    back : list_any (λ day. eqb one day) (days_between from end) ≡ true → is_between from end one ≡ true
    back h =
        let at_ : IsThere (λ day. eqb one day) from end = there (λ day. eqb one day) from end h in
        let same : one ≡ at_.day = number_tells one at_.day at_.passes in
        let low : from ≤ one = omega (arith, same, at_.low) in
        let high : one < end = omega (arith, same, at_.high) in
        grind (arith, nat_tests)

pub nothing : {Y : Type 0} (ys : List Y) → list_any (λ y. false) ys ≡ false
nothing [] = refl
nothing (y ∷ ys) = nothing ys

joined : {Y : Type 0} (p q : Y → Bool) (ys : List Y) → (list_any p ys || list_any q ys) ≡ list_any (λ y. p y || q y) ys
joined p q [] = refl
joined p q (y ∷ ys) =
    or_middles (p y) (list_any p ys) (q y) (list_any q ys) ∙ ap (λ b. (p y || q y) || b) (joined p q ys)

-- some of one list with some of another, in either order
pub any_swapped : {X Y : Type 0} (f : X → Y → Bool) (xs : List X) (ys : List Y)
    → list_any (λ x. list_any (f x) ys) xs ≡ list_any (λ y. list_any (λ x. f x y) xs) ys
any_swapped f [] ys = sym (nothing ys)
any_swapped f (x ∷ xs) ys =
    ap (λ b. list_any (f x) ys || b) (any_swapped f xs ys) ∙ joined (f x) (λ y. list_any (λ z. f z y) xs) ys
