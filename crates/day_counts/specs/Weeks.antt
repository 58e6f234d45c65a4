-- Saturdays and Sundays before a day.
use Rattle.std.specs.Prelude.{ℕ, ◌+◌, ◌-◌, ◌/◌, Bool, ◌&&◌, ◌||◌, ◌==◌}
use Rattle.calendars.specs.Dates.{weekday}

-- 01/03/1970, the day 2, was the first Saturday
abbrev pub saturdays_before : ℕ → ℕ
saturdays_before day = (day + 4) / 7

-- 01/04/1970, the day 3, was the first Sunday
abbrev pub sundays_before : ℕ → ℕ
sundays_before day = (day + 3) / 7

-- a Saturday or a Sunday, where these are free
abbrev pub is_weekly : Bool → Bool → ℕ → Bool
is_weekly sa su day = (sa && weekday day == 5) || (su && weekday day == 6)

-- a number that rises by one behind each such day of the week
abbrev pub weeks_before : ℕ → ℕ → ℕ
weeks_before number day = (day + 9 - number) / 7
