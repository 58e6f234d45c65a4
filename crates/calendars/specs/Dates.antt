-- Dates, and the days that they are, counted from 01/01/1970.
use Rattle.std.specs.Prelude.{ℕ, zero, suc, ◌+◌, ◌-◌, ◌%◌, ◌≤◌, Bool, ◌&&◌, ◌||◌, not, ◌==◌, nat_le, Option, Some, None, if◌then◌else◌}

-- a year of 366 days: every fourth, but of the hundreds only every fourth
abbrev pub is_leap : ℕ → Bool
is_leap year = year % 4 == 0 && (not (year % 100 == 0) || year % 400 == 0)

abbrev pub days_in_year : ℕ → ℕ
days_in_year year = if is_leap year then 366 else 365

abbrev pub days_in_month : ℕ → ℕ → ℕ
days_in_month year month =
    if month == 2 then (if is_leap year then 29 else 28) else
    if month == 4 || month == 6 || month == 9 || month == 11 then 30 else 31

-- a date from 1970 to 9999 that exists
abbrev pub is_date : ℕ → ℕ → ℕ → Bool
is_date year month day =
    nat_le 1970 year && (nat_le year 9999 && (nat_le 1 month && (nat_le month 12
    && (nat_le 1 day && nat_le day (days_in_month year month)))))

-- the days of this many years from 1970 on
unfoldable pub days_of_years : ℕ → ℕ
days_of_years zero = 0
days_of_years (suc n) = days_of_years n + days_in_year (1970 + n)

-- the days of this many months from the beginning of the year on
unfoldable pub days_of_months : ℕ → ℕ → ℕ
days_of_months year zero = 0
days_of_months year (suc n) = days_of_months year n + days_in_month year (1 + n)

-- how many days stand before the date
unfoldable pub days_before : ℕ → ℕ → ℕ → ℕ
days_before year month day = days_of_years (year - 1970) + days_of_months year (month - 1) + (day - 1)

-- the day of a date: 01/01/1970 is 0
unfoldable pub day_of : ℕ → ℕ → ℕ → Option ℕ
day_of year month day = if is_date year month day then Some (days_before year month day) else None

-- 12/31/9999
abbrev pub last_day : ℕ
last_day = 2932896

-- a day from 01/01/1970 to 12/31/9999
abbrev pub IsDay : ℕ → Type 0
IsDay day = day ≤ last_day

-- the day of the week, 0 for Monday to 6 for Sunday: day 0 was a Thursday
abbrev pub weekday : ℕ → ℕ
weekday day = (day + 3) % 7
