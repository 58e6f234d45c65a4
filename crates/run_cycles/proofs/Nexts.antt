-- Which dates become a day where the next workday comes in the place of a free day.
use Rattle.std.proofs.Common.{◌≡◌, ℕ, zero, suc, ◌+◌, ◌-◌, ◌<◌, ◌≤◌, ◌&&◌, ◌||◌, Bool, true, false, not, cond, [], ◌∷◌}
use Rattle.std.proofs.Common.{filter, slice_get, Option, Some, refl, sym, ap, subst, ◌∙◌, arith, eqb, eq-eqb}
use Rattle.std.proofs.lemmas.Bool.Decides.{nat_tests}
use Rattle.std.specs.List.{list_any, range_with_len}
use Rattle.calendars.specs.Nth.{below}
use Rattle.model.specs.Words.{some_is}
use Rattle.std.proofs.Common.{take_while}
use Rattle.std.proofs.lemmas.List.Sums.{take_while-cons}
use Rattle.run_rules.proofs.Places.{any_none}
use Rattle.run_cycles.proofs.Walks.{below-zero, below-suc, split, all_free, broken}

other_number : (m n : ℕ) → n < m → eqb m n ≡ false
other_number m n h = grind (arith, nat_tests)

lower_number : (m n : ℕ) → m < n → eqb m n ≡ false
lower_number m n h = grind (arith, nat_tests)

module _ (free : ℕ → Bool) where
  abbrev pub works : ℕ → Bool
  works m = not (free m)

  -- the first workday of so many days from one on
  abbrev pub head : ℕ → ℕ → Option ℕ
  head a len = slice_get (filter works (range_with_len a len)) 0

  -- it is not before the first of them
  pub late : (len a n : ℕ) → n < a → some_is (head a len) n ≡ false
  late zero a n low = refl
  late (suc len) a n low = go (works a) (late len (a + 1) n (omega (arith, low)))
    where
      go : (b : Bool) → some_is (head (a + 1) len) n ≡ false
          → some_is (slice_get (cond b (a ∷ filter works (range_with_len (a + 1) len)) (filter works (range_with_len (a + 1) len))) 0) n
          ≡ false
      go true rest = other_number a n low
      go false rest = rest

  -- and it is one of them exactly where that is a workday and those before it are free
  pub head_at : (k a len : ℕ) → k < len → some_is (head a len) (a + k) ≡ (all_free free a k && works (a + k))
  head_at k a zero low = absurd (omega (arith, low))
  head_at zero a (suc len) low =
      let here : a ≡ a + 0 = omega arith in
      subst (λ (n : ℕ). some_is (head a (suc len)) n ≡ works n) here (go (free a) refl)
    where
      go : (b : Bool) → free a ≡ b
          → some_is (slice_get (cond (not b) (a ∷ filter works (range_with_len (a + 1) len)) (filter works (range_with_len (a + 1) len))) 0) a
          ≡ not b
      go true is = late len (a + 1) a (omega arith)
      go false is = eq-eqb a a refl
  head_at (suc k) a (suc len) low =
      let next : a + 1 + k ≡ a + suc k = omega arith in
      subst (λ (n : ℕ). some_is (head a (suc len)) n ≡ ((free a && all_free free (a + 1) k) && works n)) next
      (go (free a) (head_at k (a + 1) len (omega (arith, low))))
    where
      go : (b : Bool) → some_is (head (a + 1) len) (a + 1 + k) ≡ (all_free free (a + 1) k && works (a + 1 + k))
          → some_is (slice_get (cond (not b) (a ∷ filter works (range_with_len (a + 1) len)) (filter works (range_with_len (a + 1) len))) 0) (a + 1 + k)
          ≡ ((b && all_free free (a + 1) k) && works (a + 1 + k))
      go true h = h
      go false h = lower_number a (a + 1 + k) (omega arith)

  -- the next workday of a day up to the last one
  abbrev pub next : ℕ → ℕ → Option ℕ
  next last m = head (m + 1) (last - m)

  pub next_is : (last m day : ℕ) → m < day → day ≤ last
      → some_is (next last m) day ≡ (all_free free (m + 1) (day - (m + 1)) && works day)
  next_is last m day low within =
      let sum : m + 1 + (day - (m + 1)) ≡ day = omega (arith, low) in
      subst (λ (n : ℕ). some_is (next last m) n ≡ (all_free free (m + 1) (day - (m + 1)) && works n)) sum
      (head_at (day - (m + 1)) (m + 1) (last - m) (omega (arith, low, within)))

  -- a date becomes the day: a workday stays, and in the place of a free day the next workday comes
  abbrev pub becomes : ℕ → ℕ → ℕ → Bool
  becomes last day m = some_is (cond (free m) (next last m) (Some m)) day

  pub from_behind : (last day m : ℕ) → day < m → becomes last day m ≡ false
  from_behind last day m low = go (free m)
    where
      go : (b : Bool) → some_is (cond b (next last m) (Some m)) day ≡ false
      go true = late (last - m) (m + 1) day (omega (arith, low))
      go false = other_number m day low

  pub from_itself : (last day : ℕ) → becomes last day day ≡ works day
  from_itself last day = go (free day)
    where
      go : (b : Bool) → some_is (cond b (next last day) (Some day)) day ≡ not b
      go true = late (last - day) (day + 1) day (omega arith)
      go false = eq-eqb day day refl

  -- an earlier one does exactly where it and the days behind it are free up to the day, which is a workday
  pub from_before : (last day m : ℕ) → m < day → day ≤ last
      → becomes last day m ≡ (all_free free m (day - m) && works day)
  from_before last day m low within =
      let one : day - m ≡ suc (day - (m + 1)) = omega (arith, low) in
      subst (λ (k : ℕ). becomes last day m ≡ (all_free free m k && works day)) (sym one)
      (go (free m) (next_is last m day low within))
    where
      go : (b : Bool) → some_is (next last m) day ≡ (all_free free (m + 1) (day - (m + 1)) && works day)
          → some_is (cond b (next last m) (Some m)) day ≡ ((b && all_free free (m + 1) (day - (m + 1))) && works day)
      go true h = h
      go false h = lower_number m day low

  module _ (dated : ℕ → Bool) where
    abbrev pub given : ℕ → ℕ → ℕ → Bool
    given last day m = dated m && becomes last day m

    run-zero : list_any dated (take_while free (below zero)) ≡ false
    unfolding below
    run-zero = refl

    run-suc : (n : ℕ) → list_any dated (take_while free (below (suc n)))
        ≡ list_any dated (cond (free n) (n ∷ take_while free (below n)) [])
    unfolding below
    run-suc n = ap (list_any dated) (take_while-cons free n (below n))

    -- a free day before free days up to the day
    one_more : (day n : ℕ) → n < day → free n ≡ true → all_free free (suc n) (day - suc n) ≡ true
        → all_free free n (day - n) ≡ true
    one_more day n low here behind =
        let steps : day - n ≡ suc (day - suc n) = omega (arith, low) in
        let after : n + 1 ≡ suc n = omega arith in
        ap (all_free free n) steps
        ∙ (ap (λ b. b && all_free free (n + 1) (day - suc n)) here
        ∙ (ap (λ k. all_free free k (day - suc n)) after ∙ behind))

    -- a workday among them breaks them
    stopped : (last day n m : ℕ) → m ≤ n → n < day → day ≤ last → free n ≡ false → becomes last day m ≡ false
    stopped last day n m low_m low within at =
        let sum : m + (n - m) ≡ n = omega (arith, low_m) in
        from_before last day m (omega (arith, low_m, low)) within
        ∙ ap (λ b. b && works day)
        (broken free (n - m) m (day - m) (ap free sum ∙ at) (omega (arith, low_m, low)))

    and_false : (b : Bool) → (b && false) ≡ false
    and_false true = refl
    and_false false = refl

    three : (d w r : Bool) → ((d && w) || (w && r)) ≡ (w && (d || r))
    three true true r = refl
    three true false r = refl
    three false true r = refl
    three false false r = refl

    any_run : (last day n : ℕ) → n ≤ day → day ≤ last → all_free free n (day - n) ≡ true
        → list_any (given last day) (below n) ≡ (works day && list_any dated (take_while free (below n)))
    any_run last day zero low within all =
        below-zero (given last day) ∙ sym (ap (λ b. works day && b) run-zero ∙ and_false (works day))
    any_run last day (suc n) low within all =
        below-suc (given last day) n
        ∙ (go (free n) refl (any_run last day n (omega (arith, low)) within)
        ∙ sym (ap (λ b. works day && b) (run-suc n)))
      where
        go : (b : Bool) → free n ≡ b
            → (all_free free n (day - n) ≡ true
            → list_any (given last day) (below n) ≡ (works day && list_any dated (take_while free (below n))))
            → (given last day n || list_any (given last day) (below n))
            ≡ (works day && list_any dated (cond b (n ∷ take_while free (below n)) []))
        go true here rest =
            let below_day : n < day = omega (arith, low) in
            let full : all_free free n (day - n) ≡ true = one_more day n below_day here all in
            let becomes_it : becomes last day n ≡ works day =
            from_before last day n below_day within ∙ ap (λ b. b && works day) full in
            ap (λ b. (dated n && b) || list_any (given last day) (below n)) becomes_it
            ∙ (ap (λ b. (dated n && works day) || b) (rest full)
            ∙ three (dated n) (works day) (list_any dated (take_while free (below n))))
        go false here rest =
            let below_day : n < day = omega (arith, low) in
            let own : given last day n ≡ false =
            ap (λ b. dated n && b) (stopped last day n n (omega arith) below_day within here) ∙ and_false (dated n) in
            let lower : list_any (given last day) (below n) ≡ false =
            any_none (given last day) n
            (λ m less. ap (λ b. dated m && b) (stopped last day n m (omega (arith, less)) below_day within here) ∙ and_false (dated m)) in
            ap (λ b. b || list_any (given last day) (below n)) own ∙ (lower ∙ sym (and_false (works day)))

    -- some date becomes the day: it is a workday, and is a date itself or one of the free days directly before it is
    pub next_gives : (last day : ℕ) → day ≤ last
        → list_any (given last day) (below (last + 1))
        ≡ (works day && (dated day || list_any dated (take_while free (below day))))
    next_gives last day within =
        let nothing : day - day ≡ 0 = omega arith in
        split (given last day) (last + 1) day (omega (arith, within))
        (λ m above. ap (λ b. dated m && b) (from_behind last day m above) ∙ and_false (dated m))
        ∙ (ap (λ b. (dated day && b) || list_any (given last day) (below day)) (from_itself last day)
        ∙ (ap (λ b. (dated day && works day) || b)
        (any_run last day day (omega arith) within (ap (all_free free day) nothing))
        ∙ three (dated day) (works day) (list_any dated (take_while free (below day)))))
