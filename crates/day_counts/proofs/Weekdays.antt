-- Counts in whole weeks.
use Rattle.std.proofs.Common.{◌≡◌, ℕ, zero, suc, ◌+◌, ◌<◌, ◌≤◌, ◌%◌, Bool, false, cond, nat_lt, ◌==◌, ap, arith, inl, inr, le-ltb, lt-ltb}
use Rattle.std.proofs.lemmas.Bool.{cases_lt}
use Rattle.std.proofs.lemmas.Bool.Decides.{eqb_tells}
use Rattle.calendars.specs.Dates.{weekday}
use Rattle.day_counts.specs.Weeks.{saturdays_before, sundays_before, weeks_before}
use Rattle.day_counts.proofs.Counting.{count, count-zero, passes, fails}

abbrev pub one_if : Bool → ℕ
one_if b = cond b 1 0

abbrev is_weekday : ℕ → Bool
is_weekday day = nat_lt (weekday day) 5

-- what is no Saturday and no Sunday is a weekday
pub weekdays : (n : ℕ) → count is_weekday n + (saturdays_before n + sundays_before n) ≡ n
weekdays zero = omega (arith, count-zero is_weekday)
weekdays (suc n) =
    let rest = weekdays n in
    elim (cases_lt ((n + 3) % 7) 5) [
      | inl less ↦ omega (arith, less, rest, passes is_weekday n (lt-ltb ((n + 3) % 7) 5 less))
      | inr more ↦ omega (arith, more, rest, fails is_weekday n (le-ltb ((n + 3) % 7) 5 more))
    ]

pub saturdays : (n : ℕ) → saturdays_before (suc n) ≡ saturdays_before n + one_if (weekday n == 5)
saturdays n =
    elim (eqb_tells ((n + 3) % 7) 5) [
      | inl is ↦ omega (arith, is.1, ap one_if is.0)
      | inr other ↦ omega (arith, other.1, ap one_if other.0)
    ]

pub sundays : (n : ℕ) → sundays_before (suc n) ≡ sundays_before n + one_if (weekday n == 6)
sundays n =
    elim (eqb_tells ((n + 3) % 7) 6) [
      | inl is ↦ omega (arith, is.1, ap one_if is.0)
      | inr other ↦ omega (arith, other.1, ap one_if other.0)
    ]

pub weeks : (number : ℕ) → number < 7 → (n : ℕ)
    → weeks_before number (suc n) ≡ weeks_before number n + one_if (weekday n == number)
weeks number low n =
    elim (eqb_tells ((n + 3) % 7) number) [
      | inl is ↦ omega (arith, low, is.1, ap one_if is.0)
      | inr other ↦ omega (arith, low, other.1, ap one_if other.0)
    ]

pub no_weekday : (number : ℕ) → 7 ≤ number → (n : ℕ) → (weekday n == number) ≡ false
no_weekday number high n =
    elim (eqb_tells ((n + 3) % 7) number) [
      | inl is ↦ absurd (omega (arith, high, is.1))
      | inr other ↦ other.0
    ]
