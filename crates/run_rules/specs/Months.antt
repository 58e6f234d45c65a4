-- Months, counted from 01/1970 as 0 to 12/9999, and the days that they have.
use Rattle.std.specs.Prelude.{◌≡◌, ℕ, zero, suc, ◌+◌, ◌-◌, ◌*◌, ◌/◌, ◌%◌, ◌≤◌, Bool, false, ◌&&◌, ◌==◌, nat_le, nat_lt}
use Rattle.std.specs.Prelude.{List, Option, ℤ, pos, negsuc}
use Rattle.calendars.specs.Dates as dates
use Rattle.calendars.specs.Dates.{day_of}
use Rattle.calendars.specs.Nth.{below}
use Rattle.run_rules.specs.declared.months.MonthPlace.{MonthPlace}

-- all months, the last first
abbrev pub all_months : List ℕ
all_months = below 96360

abbrev pub year_of : ℕ → ℕ
year_of m = 1970 + m / 12

abbrev pub month_of : ℕ → ℕ
month_of m = 1 + m % 12

-- how many days a month has
abbrev pub length_of : ℕ → ℕ
length_of m = dates.days_in_month (year_of m) (month_of m)

-- the kth day of a month, or the kth from its end for a k below 0, where the month has it
abbrev pub kth : ℕ → ℤ → Option ℕ
kth m (pos k) = day_of (year_of m) (month_of m) k
kth m (negsuc k) = day_of (year_of m) (month_of m) (length_of m - k)

-- the month has the day
abbrev pub begin_of : ℕ → ℕ
begin_of m = dates.days_before (year_of m) (month_of m) 1

abbrev pub is_in_month : ℕ → ℕ → Bool
is_in_month m day = nat_le (begin_of m) day && nat_lt day (begin_of m + length_of m)

-- the month, the day of the month and the length of the month of a day
pub record IsPlaceOf (place : MonthPlace) (day : ℕ) : Type 0 where
  pub in_range : place.month ≤ 96359
  pub begins : day + 1 ≡ begin_of place.month + place.day
  pub from_one : 1 ≤ place.day
  pub within : place.day ≤ place.length
  pub lasts : place.length ≡ length_of place.month

-- a day at this place is the kth of its month, or the kth from its end for a k below 0
abbrev pub is_kth : MonthPlace → ℤ → Bool
is_kth place (pos zero) = false
is_kth place (pos (suc k)) = place.day == suc k
is_kth place (negsuc k) = place.day + suc k == place.length + 1
