-- Which days are free.
use Rattle.std.specs.Prelude.{ℕ, Bool, not, ◌&&◌, ◌||◌, ◌==◌}
use Rattle.calendars.specs.Dates.{weekday}
use Rattle.calendars.specs.Sets.{has}
use Rattle.calendars.specs.declared.free_days.FreeDays.{FreeDays}

-- a Saturday or a Sunday where these are free, and each date of the calendar
abbrev pub is_free : FreeDays → ℕ → Bool
is_free free day = (free.sa && weekday day == 5) || ((free.su && weekday day == 6) || has free.dates day)

-- a day that is not free
abbrev pub is_workday : FreeDays → ℕ → Bool
is_workday free day = not (is_free free day)
