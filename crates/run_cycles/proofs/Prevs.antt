-- Which dates become a day where the last workday before comes in the place of a free day.
use Rattle.std.proofs.Common.{◌≡◌, ℕ, zero, suc, ◌+◌, ◌<◌, ◌≤◌, ◌&&◌, ◌||◌, Bool, true, false, not, cond, [], ◌∷◌}
use Rattle.std.proofs.Common.{filter, slice_get, Option, Some, None, refl, sym, ap, ◌∙◌, arith, eqb, eq-eqb}
use Rattle.std.proofs.lemmas.Bool.Decides.{nat_tests}
use Rattle.std.specs.List.{list_any, range_with_len}
use Rattle.calendars.specs.Nth.{below}
use Rattle.model.specs.Words.{some_is}
use Rattle.std.proofs.Common.{take_while}
use Rattle.std.proofs.lemmas.List.Sums.{take_while-cons}
use Rattle.lemmas.proofs.Booleans.{and_false, and_true, or_false, or_regroup}
use Rattle.run_rules.proofs.Places.{any_none}
use Rattle.run_cycles.proofs.Walks.{below-suc, all_free}

pub higher : (m n : ℕ) → n < m → eqb m n ≡ false
higher m n h = grind (arith, nat_tests)

pub lower : (m n : ℕ) → m < n → eqb m n ≡ false
lower m n h = grind (arith, nat_tests)

and_assoc : (a b c : Bool) → ((a && b) && c) ≡ (a && (b && c))
and_assoc true b c = refl
and_assoc false b c = refl

module _ (free : ℕ → Bool) where
  abbrev pub works : ℕ → Bool
  works m = not (free m)

  -- the last workday before a day
  abbrev pub prev : ℕ → Option ℕ
  prev m = slice_get (filter works (below m)) 0

  prev-zero : prev zero ≡ None
  unfolding below
  prev-zero = refl

  prev-suc : (m : ℕ) → prev (suc m) ≡ slice_get (cond (works m) (m ∷ filter works (below m)) (filter works (below m))) 0
  unfolding below
  prev-suc m = refl

  -- it is before the day
  pub early : (m n : ℕ) → m ≤ n → some_is (prev m) n ≡ false
  early zero n low = ap (λ o. some_is o n) prev-zero
  early (suc m) n low = ap (λ o. some_is o n) (prev-suc m) ∙ go (works m) (early m n (omega (arith, low)))
    where
      go : (b : Bool) → some_is (prev m) n ≡ false
          → some_is (slice_get (cond b (m ∷ filter works (below m)) (filter works (below m))) 0) n ≡ false
      go true rest = lower m n (omega (arith, low))
      go false rest = rest

  -- one day more is free where the last of them is
  pub all_free-last : (k a : ℕ) → all_free free a (suc k) ≡ (all_free free a k && free (a + k))
  all_free-last zero a =
      let here : a ≡ a + 0 = omega arith in
      and_true (free a) ∙ ap free here
  all_free-last (suc k) a =
      let last : a + 1 + k ≡ a + suc k = omega arith in
      ap (λ b. free a && b) (all_free-last k (a + 1) ∙ ap (λ n. all_free free (a + 1) k && free n) last)
      ∙ sym (and_assoc (free a) (all_free free (a + 1) k) (free (a + suc k)))

  -- a day is the last workday before another exactly where it is a workday and those between are free
  pub prev_is : (k n : ℕ) → some_is (prev (n + 1 + k)) n ≡ (works n && all_free free (n + 1) k)
  prev_is zero n =
      let top : n + 1 + 0 ≡ suc n = omega arith in
      ap (λ m. some_is (prev m) n) top
      ∙ (ap (λ o. some_is o n) (prev-suc n) ∙ (go (works n) ∙ sym (and_true (works n))))
    where
      go : (b : Bool) → some_is (slice_get (cond b (n ∷ filter works (below n)) (filter works (below n))) 0) n ≡ b
      go true = eq-eqb n n refl
      go false = early n n (omega arith)
  prev_is (suc k) n =
      let top : n + 1 + suc k ≡ suc (n + 1 + k) = omega arith in
      ap (λ m. some_is (prev m) n) top
      ∙ (ap (λ o. some_is o n) (prev-suc (n + 1 + k))
      ∙ (go (free (n + 1 + k)) (prev_is k n) ∙ ap (λ b. works n && b) (sym (all_free-last k (n + 1)))))
    where
      go : (b : Bool) → some_is (prev (n + 1 + k)) n ≡ (works n && all_free free (n + 1) k)
          → some_is
          (slice_get (cond (not b) ((n + 1 + k) ∷ filter works (below (n + 1 + k))) (filter works (below (n + 1 + k)))) 0) n
          ≡ (works n && (all_free free (n + 1) k && b))
      go true h = h ∙ ap (λ b. works n && b) (sym (and_true (all_free free (n + 1) k)))
      go false h =
          higher (n + 1 + k) n (omega arith)
          ∙ sym (ap (λ b. works n && b) (and_false (all_free free (n + 1) k)) ∙ and_false (works n))

  -- a date becomes the day: a workday stays, and in the place of a free day the last workday before comes
  abbrev pub becomes : ℕ → ℕ → Bool
  becomes day m = some_is (cond (free m) (prev m) (Some m)) day

  pub from_before : (day m : ℕ) → m < day → becomes day m ≡ false
  from_before day m low = go (free m)
    where
      go : (b : Bool) → some_is (cond b (prev m) (Some m)) day ≡ false
      go true = early m day (omega (arith, low))
      go false = lower m day low

  pub from_itself : (day : ℕ) → becomes day day ≡ works day
  from_itself day = go (free day)
    where
      go : (b : Bool) → some_is (cond b (prev day) (Some day)) day ≡ not b
      go true = early day day (omega arith)
      go false = eq-eqb day day refl

  -- a later one does exactly where it and the days before it are free down to the day, which is a workday
  pub from_behind : (day k : ℕ) → becomes day (day + 1 + k) ≡ (works day && all_free free (day + 1) (suc k))
  from_behind day k =
      go (free (day + 1 + k)) (prev_is k day) ∙ ap (λ b. works day && b) (sym (all_free-last k (day + 1)))
    where
      go : (b : Bool) → some_is (prev (day + 1 + k)) day ≡ (works day && all_free free (day + 1) k)
          → some_is (cond b (prev (day + 1 + k)) (Some (day + 1 + k))) day
          ≡ (works day && (all_free free (day + 1) k && b))
      go true h = h ∙ ap (λ b. works day && b) (sym (and_true (all_free free (day + 1) k)))
      go false h =
          higher (day + 1 + k) day (omega arith)
          ∙ sym (ap (λ b. works day && b) (and_false (all_free free (day + 1) k)) ∙ and_false (works day))

  module _ (dated : ℕ → Bool) where
    abbrev pub given : ℕ → ℕ → Bool
    given day m = dated m && becomes day m

    -- a run with one day more behind it
    pub any-last : (k a : ℕ) → list_any dated (take_while free (range_with_len a (suc k)))
        ≡ (list_any dated (take_while free (range_with_len a k)) || (all_free free a (suc k) && dated (a + k)))
    any-last zero a = ap (list_any dated) (take_while-cons free a []) ∙ go (free a) refl
      where
        go : (b : Bool) → free a ≡ b
            → list_any dated (cond b (a ∷ []) []) ≡ ((b && true) && dated (a + 0))
        go true h = let here : a ≡ a + 0 = omega arith in or_false (dated a) ∙ ap dated here
        go false h = refl
    any-last (suc k) a =
        ap (list_any dated) (take_while-cons free a (range_with_len (a + 1) (suc k)))
        ∙ (go (free a) (any-last k (a + 1))
        ∙ sym (ap (λ l. list_any dated l || (all_free free a (suc (suc k)) && dated (a + suc k)))
        (take_while-cons free a (range_with_len (a + 1) k))))
      where
        go : (b : Bool)
            → list_any dated (take_while free (range_with_len (a + 1) (suc k)))
            ≡ (list_any dated (take_while free (range_with_len (a + 1) k)) || (all_free free (a + 1) (suc k) && dated (a + 1 + k)))
            → list_any dated (cond b (a ∷ take_while free (range_with_len (a + 1) (suc k))) [])
            ≡ (list_any dated (cond b (a ∷ take_while free (range_with_len (a + 1) k)) [])
            || ((b && all_free free (a + 1) (suc k)) && dated (a + suc k)))
        go true h =
            let last : a + 1 + k ≡ a + suc k = omega arith in
            ap (λ b. dated a || b)
            (h ∙ ap (λ n. list_any dated (take_while free (range_with_len (a + 1) k)) || (all_free free (a + 1) (suc k) && dated n)) last)
            ∙ or_regroup (dated a) (list_any dated (take_while free (range_with_len (a + 1) k)))
            (all_free free (a + 1) (suc k) && dated (a + suc k))
        go false h = refl

    joined : (t w f d r : Bool) → ((t && (w && f)) || (w && (d || r))) ≡ (w && (d || (r || (f && t))))
    joined true true true true r = refl
    joined true true true false true = refl
    joined true true true false false = refl
    joined true true false true r = refl
    joined true true false false true = refl
    joined true true false false false = refl
    joined true false f d r = refl
    joined false true true true r = refl
    joined false true true false true = refl
    joined false true true false false = refl
    joined false true false true r = refl
    joined false true false false true = refl
    joined false true false false false = refl
    joined false false f d r = refl

    alone : (d w : Bool) → ((d && w) || false) ≡ (w && (d || false))
    alone true true = refl
    alone true false = refl
    alone false true = refl
    alone false false = refl

    -- some date up to so many days behind the day becomes it
    pub prev_gives : (day k : ℕ) → list_any (given day) (below (day + 1 + k))
        ≡ (works day && (dated day || list_any dated (take_while free (range_with_len (day + 1) k))))
    prev_gives day zero =
        let top : day + 1 + 0 ≡ suc day = omega arith in
        ap (λ m. list_any (given day) (below m)) top
        ∙ (below-suc (given day) day
        ∙ (ap (λ b. (dated day && b) || list_any (given day) (below day)) (from_itself day)
        ∙ (ap (λ b. (dated day && works day) || b)
        (any_none (given day) day (λ m low. ap (λ b. dated m && b) (from_before day m low) ∙ and_false (dated m)))
        ∙ alone (dated day) (works day))))
    prev_gives day (suc k) =
        let top : day + 1 + suc k ≡ suc (day + 1 + k) = omega arith in
        ap (λ m. list_any (given day) (below m)) top
        ∙ (below-suc (given day) (day + 1 + k)
        ∙ (ap (λ b. (dated (day + 1 + k) && b) || list_any (given day) (below (day + 1 + k))) (from_behind day k)
        ∙ (ap (λ b. (dated (day + 1 + k) && (works day && all_free free (day + 1) (suc k))) || b) (prev_gives day k)
        ∙ (joined (dated (day + 1 + k)) (works day) (all_free free (day + 1) (suc k)) (dated day)
        (list_any dated (take_while free (range_with_len (day + 1) k)))
        ∙ ap (λ b. works day && (dated day || b)) (sym (any-last k (day + 1)))))))
