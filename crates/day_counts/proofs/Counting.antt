-- How many numbers below one pass a test, and where the nth of those that pass stands.
use Rattle.std.proofs.Common.{◌≡◌, ℕ, zero, suc, ◌+◌, ◌<◌, ◌≤◌, ◌&&◌, Bool, true, false, not, cond, nat_le, nat_lt, List, [], ◌∷◌}
use Rattle.std.proofs.Common.{filter, length, slice_get, refl, sym, ap, ◌∙◌, arith, inl, inr, le-leb, le-ltb, lt-ltb}
use Rattle.std.proofs.lemmas.Bool.{cases_lt}
use Rattle.std.specs.List.{range_with_len}
use Rattle.lemmas.proofs.Booleans.{and_false}
use Rattle.lemmas.proofs.Numbers.{le_refused}
use Rattle.calendars.specs.Nth.{below}
use Rattle.day_counts.specs.Counts.{is_between, is_within}

-- two tests that both pass or both fail
le_alike : (a b m n : ℕ) → (a ≤ b → m ≤ n) → (b < a → n < m) → nat_le a b ≡ nat_le m n
le_alike a b m n low high =
    elim (cases_lt b a) [
      | inl less ↦
          (let other : n < m = high less in
          le_refused a b (omega (arith, less)) ∙ sym (le_refused m n (omega (arith, other))))
      | inr more ↦ le-leb a b more ∙ sym (le-leb m n (low more))
    ]

lt_alike : (a b m n : ℕ) → (a < b → m < n) → (b ≤ a → n ≤ m) → nat_lt a b ≡ nat_lt m n
lt_alike a b m n low high =
    elim (cases_lt a b) [
      | inl less ↦ lt-ltb a b less ∙ sym (lt-ltb m n (low less))
      | inr more ↦ le-ltb a b more ∙ sym (le-ltb m n (high more))
    ]

-- all three numbers one further
pub shifted : (a b c x y z : ℕ) → x ≡ a + 1 → y ≡ b + 1 → z ≡ c + 1 → is_between a b c ≡ is_between x y z
shifted a b c x y z from end at =
    let low : nat_le a c ≡ nat_le x z =
    le_alike a c x z (λ h. omega (arith, h, from, at)) (λ h. omega (arith, h, from, at)) in
    let high : nat_lt c b ≡ nat_lt z y = lt_alike c b z y (λ h. omega (arith, h, end, at)) (λ h. omega (arith, h, end, at)) in
    λ i. low i && high i

-- two numbers that stand past their ranges
past : (a b c : ℕ) → b ≤ c → is_between a b c ≡ false
past a b c high = ap (λ t. nat_le a c && t) (le-ltb c b high) ∙ and_false (nat_le a c)

pub both_past : (a b c x y z : ℕ) → b ≤ c → y ≤ z → is_between a b c ≡ is_between x y z
both_past a b c x y z first second = past a b c first ∙ sym (past x y z second)

below-nothing : below zero ≡ []
unfolding below
below-nothing = refl

below-next : (n : ℕ) → below (suc n) ≡ n ∷ below n
unfolding below
below-next n = refl

module _ (p : ℕ → Bool) where
  abbrev pub count : ℕ → ℕ
  count n = length (filter p (below n))

  pub count-zero : count zero ≡ 0
  unfolding below
  count-zero = refl

  count-suc : (n : ℕ) → count (suc n) ≡ length (cond (p n) (n ∷ filter p (below n)) (filter p (below n)))
  unfolding below
  count-suc n = refl

  pub passes : (n : ℕ) → p n ≡ true → count (suc n) ≡ suc (count n)
  passes n is = count-suc n ∙ ap (λ (b : Bool). length (cond b (n ∷ filter p (below n)) (filter p (below n)))) is

  pub fails : (n : ℕ) → p n ≡ false → count (suc n) ≡ count n
  fails n is = count-suc n ∙ ap (λ (b : Bool). length (cond b (n ∷ filter p (below n)) (filter p (below n)))) is

  pub one_more : (n : ℕ) → count (suc n) ≡ count n + cond (p n) 1 0
  one_more n = go (p n) refl
    where
      go : (b : Bool) → p n ≡ b → count (suc n) ≡ count n + cond b 1 0
      go true is = omega (arith, passes n is)
      go false is = omega (arith, fails n is)

  grows : (n : ℕ) → count n ≤ count (suc n)
  grows n = go (p n) refl
    where
      go : (b : Bool) → p n ≡ b → count n ≤ count (suc n)
      go true is = omega (arith, passes n is)
      go false is = omega (arith, fails n is)

  pub rises : (m n : ℕ) → m ≤ n → count m ≤ count n
  rises m zero low = let same : m ≡ 0 = omega (arith, low) in omega (arith, ap count same)
  rises m (suc n) low =
      elim (cases_lt m (suc n)) [
        | inl less ↦
            (let before : count m ≤ count n = rises m n (omega (arith, less)) in omega (arith, before, grows n))
        | inr more ↦ (let same : m ≡ suc n = omega (arith, low, more) in omega (arith, ap count same))
      ]

  -- a number that passes stands from one on and before another exactly where its count does
  between_alike : (from end a : ℕ) → p a ≡ true → is_between from end a ≡ is_between (count from) (count end) (count a)
  between_alike from end a is =
      let low : nat_le from a ≡ nat_le (count from) (count a) =
      le_alike from a (count from) (count a) (λ h. rises from a h)
      (λ h. let more : count (suc a) ≤ count from = rises (suc a) from (omega (arith, h)) in omega (arith, more, passes a is)) in
      let high : nat_lt a end ≡ nat_lt (count a) (count end) =
      lt_alike a end (count a) (count end)
      (λ h. let more : count (suc a) ≤ count end = rises (suc a) end (omega (arith, h)) in omega (arith, more, passes a is))
      (λ h. rises end a h) in
      λ i. low i && high i

  -- the nth of those from a number on
  pub after : (from end len a n : ℕ) → end ≤ a + len
      → is_within from end (slice_get (filter p (range_with_len a len)) n)
      ≡ is_between (count from) (count end) (count a + n)
  after from end zero a n low =
      let full : count end ≤ count a = rises end a (omega (arith, low)) in
      sym (past (count from) (count end) (count a + n) (omega (arith, full)))
  after from end (suc len) a n low =
      step (p a) refl n (λ m. after from end len (a + 1) m (omega (arith, low)))
    where
      next : count (a + 1) ≡ count (suc a)
      next = let same : a + 1 ≡ suc a = omega arith in ap count same

      step : (b : Bool) → p a ≡ b → (m : ℕ)
          → ((k : ℕ) → is_within from end (slice_get (filter p (range_with_len (a + 1) len)) k)
          ≡ is_between (count from) (count end) (count (a + 1) + k))
          → is_within from end
          (slice_get (cond b (a ∷ filter p (range_with_len (a + 1) len)) (filter p (range_with_len (a + 1) len))) m)
          ≡ is_between (count from) (count end) (count a + m)
      step true is zero behind =
          let here : count a ≡ count a + 0 = omega arith in
          between_alike from end a is ∙ ap (is_between (count from) (count end)) here
      step true is (suc k) behind =
          let sum : count (a + 1) + k ≡ count a + suc k = omega (arith, next, passes a is) in
          behind k ∙ ap (is_between (count from) (count end)) sum
      step false is m behind =
          let sum : count (a + 1) + m ≡ count a + m = omega (arith, next, fails a is) in
          behind m ∙ ap (is_between (count from) (count end)) sum

  -- and of those below one, the highest first
  pub before : (from end x n : ℕ) → is_within from end (slice_get (filter p (below x)) n)
      ≡ is_between (count from + suc n) (count end + suc n) (count x)
  before from end zero n =
      ap (λ (days : List ℕ). is_within from end (slice_get (filter p days) n)) below-nothing
      ∙ sym
      (ap (λ b. b && nat_lt (count zero) (count end + suc n))
      (le_refused (count from + suc n) (count zero) (omega (arith, count-zero))))
  before from end (suc m) n =
      ap (λ (days : List ℕ). is_within from end (slice_get (filter p days) n)) (below-next m)
      ∙ step (p m) refl n (λ k. before from end m k)
    where
      step : (b : Bool) → p m ≡ b → (k : ℕ)
          → ((j : ℕ) → is_within from end (slice_get (filter p (below m)) j)
          ≡ is_between (count from + suc j) (count end + suc j) (count m))
          → is_within from end (slice_get (cond b (m ∷ filter p (below m)) (filter p (below m))) k)
          ≡ is_between (count from + suc k) (count end + suc k) (count (suc m))
      step true is zero behind =
          between_alike from end m is
          ∙ shifted (count from) (count end) (count m) (count from + 1) (count end + 1) (count (suc m)) (omega arith)
          (omega arith) (omega (arith, passes m is))
      step true is (suc k) behind =
          behind k
          ∙ shifted (count from + suc k) (count end + suc k) (count m) (count from + suc (suc k)) (count end + suc (suc k))
          (count (suc m)) (omega arith) (omega arith) (omega (arith, passes m is))
      step false is k behind = behind k ∙ ap (is_between (count from + suc k) (count end + suc k)) (sym (fails m is))

-- each number passes one of two opposite tests
pub complement : (f : ℕ → Bool) (n : ℕ) → count (λ m. not (f m)) n + count f n ≡ n
complement f zero = omega (arith, count-zero (λ m. not (f m)), count-zero f)
complement f (suc n) = go (f n) refl (complement f n)
  where
    go : (b : Bool) → f n ≡ b → count (λ m. not (f m)) n + count f n ≡ n
        → count (λ m. not (f m)) (suc n) + count f (suc n) ≡ suc n
    go true is rest = omega (arith, rest, passes f n is, fails (λ m. not (f m)) n (ap not is))
    go false is rest = omega (arith, rest, fails f n is, passes (λ m. not (f m)) n (ap not is))

pub all_count : (n : ℕ) → count (λ m. true) n ≡ n
all_count zero = count-zero (λ m. true)
all_count (suc n) = omega (arith, all_count n, passes (λ m. true) n refl)
