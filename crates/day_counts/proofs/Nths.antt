-- Where the nth day of a kind stands, by counts.
use Rattle.std.proofs.Common.{◌≡◌, ℕ, zero, suc, ◌+◌, ◌-◌, ◌≤◌, Bool, true, false, cond, min, ◌==◌, pos, neg_ℤ}
use Rattle.std.proofs.Common.{refl, ap, ◌∙◌, arith, inl, inr}
use Rattle.std.proofs.lemmas.Bool.{cases_lt}
use Rattle.lemmas.proofs.Booleans.{contrary}
use Rattle.lemmas.proofs.Numbers.{number_itself, suc_not_zero}
use Rattle.calendars.specs.Dates.{last_day}
use Rattle.calendars.specs.Nth.{is_of_kind, nth_day}
use Rattle.calendars.specs.declared.FreeDays.{FreeDays}
use Rattle.calendars.specs.declared.DayKind.{DayKind}
use Rattle.day_counts.specs.declared.counted_days.Step.{Step}
use Rattle.day_counts.specs.Counts.{bound_of, count_before, is_between, is_within, moved, place_of}
use Rattle.day_counts.proofs.Counting.{after, before, both_past, rises, shifted}

module _ (free : FreeDays) (kind : DayKind) where
  abbrev p : ℕ → Bool
  p = is_of_kind free kind

  abbrev counted_to : ℕ → ℕ
  counted_to day = count_before free kind day

  forward : (from end date k : ℕ) → end ≤ last_day + 1
      → is_within from end (nth_day free date (pos (suc k)) kind)
      ≡ is_between (counted_to from + 1) (counted_to end + 1) (counted_to (min date last_day + 1) + suc k)
  forward from end date k high =
      after p from end (last_day - date) (date + 1) k (omega (arith, high))
      ∙ elim (cases_lt last_day date) [
        | inl late ↦
            (let all : counted_to end ≤ counted_to (date + 1) = rises p end (date + 1) (omega (arith, high, late)) in
            let some : counted_to end ≤ counted_to (min date last_day + 1) =
            rises p end (min date last_day + 1) (omega (arith, high, late)) in
            both_past (counted_to from) (counted_to end) (counted_to (date + 1) + k) (counted_to from + 1)
            (counted_to end + 1) (counted_to (min date last_day + 1) + suc k) (omega (arith, all)) (omega (arith, some)))
        | inr early ↦
            (let same : date + 1 ≡ min date last_day + 1 = omega (arith, early) in
            let one : counted_to (date + 1) ≡ counted_to (min date last_day + 1) = ap counted_to same in
            shifted (counted_to from) (counted_to end) (counted_to (date + 1) + k) (counted_to from + 1)
            (counted_to end + 1) (counted_to (min date last_day + 1) + suc k) refl refl (omega (arith, one)))
      ]

  by_parts : (plus z : Bool) (n : ℕ) → (n == 0) ≡ z → (from end date : ℕ) → end ≤ last_day + 1
      → is_within from end (nth_day free date (cond plus (pos n) (neg_ℤ (pos n))) kind)
      ≡ is_between (cond z from (cond plus (counted_to from + 1) (counted_to from + n)))
      (cond z end (cond plus (counted_to end + 1) (counted_to end + n)))
      (cond z date (cond plus (counted_to (min date last_day + 1) + n) (counted_to (min date (last_day + 1)))))
  by_parts true true zero is from end date high = refl
  by_parts false true zero is from end date high = refl
  by_parts plus false zero is from end date high = absurd (contrary (number_itself 0) is)
  by_parts plus true (suc k) is from end date high = absurd (contrary is (suc_not_zero k))
  by_parts true false (suc k) is from end date high = forward from end date k high
  by_parts false false (suc k) is from end date high = before p from end (min date (last_day + 1)) k

  place_by_parts : (z plus : Bool) (n a b : ℕ) → a ≤ b
      → cond z a (cond plus (counted_to (min a last_day + 1) + n) (counted_to (min a (last_day + 1))))
      ≤ cond z b (cond plus (counted_to (min b last_day + 1) + n) (counted_to (min b (last_day + 1))))
  place_by_parts true plus n a b low = low
  place_by_parts false true n a b low =
      let more : counted_to (min a last_day + 1) ≤ counted_to (min b last_day + 1) =
      rises p (min a last_day + 1) (min b last_day + 1) (omega (arith, low)) in
      omega (arith, more)
  place_by_parts false false n a b low = rises p (min a (last_day + 1)) (min b (last_day + 1)) (omega (arith, low))

-- the day of a step stands in a range exactly where the place of the date stands between the numbers of its ends
pub stepped : (free : FreeDays) (step : Step) (from end date : ℕ) → end ≤ last_day + 1
    → is_within from end (moved free step date)
    ≡ is_between (bound_of free step from) (bound_of free step end) (place_of free step date)
stepped free step from end date high =
    by_parts free step.kind step.plus (step.n == 0) step.n refl from end date high

-- a later date has no lower place
pub places_rise : (free : FreeDays) (step : Step) (a b : ℕ) → a ≤ b → place_of free step a ≤ place_of free step b
places_rise free step a b low = place_by_parts free step.kind (step.n == 0) step.plus step.n a b low
