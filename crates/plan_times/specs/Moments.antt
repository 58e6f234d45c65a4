-- The moment of a time in the plan of a day.
use Rattle.std.specs.Prelude.{ℕ, ◌+◌, ◌*◌, nat_lt, if◌then◌else◌, ℤ, pos, ◌-ℤ◌, ◌*ℤ◌, ◌≤ℤ◌}
use Rattle.calendars.specs.Dates.{IsDay}

-- the date of a time: that of the plan, and the next one for a minute below the start of day, and so many later
abbrev pub date_of : ℕ → ℕ → ℕ → ℕ → ℕ
date_of day minute plus start = day + plus + (if nat_lt minute start then 1 else 0)

-- seconds since 1970 of a minute of a date, read so many minutes east of UTC
abbrev pub seconds_of : ℕ → ℕ → ℤ → ℤ
seconds_of date minute east = pos (86400 * date + 60 * minute) -ℤ (pos 60 *ℤ east)

-- the date is one to the end of 9999, and the moment is not before 1970
abbrev pub IsInRange : ℕ → ℕ → ℤ → Type 0
IsInRange date minute east = IsDay date × (pos 0 ≤ℤ seconds_of date minute east)
