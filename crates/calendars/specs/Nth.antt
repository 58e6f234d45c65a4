-- The nth day of a kind, after a day and before it.
use Rattle.std.specs.Prelude.{ℕ, ◌+◌, ◌-◌, Bool, true, min, List, [], ◌∷◌, filter, slice_get, Option, Some, ℤ, pos, negsuc, zero, suc, nat_lt}
use Rattle.std.specs.List.{range_with_len}
use Rattle.calendars.specs.Dates.{last_day, weekday}
use Rattle.calendars.specs.Free.{is_workday}
use Rattle.calendars.specs.declared.free_days.FreeDays.{FreeDays}
use Rattle.calendars.specs.declared.nth_days.DayKind.{DayKind}
use Rattle.calendars.specs.declared.nth_days.DayKind.TheVariants.{Days, Weekdays, Workdays}

-- whether a day is of the kind: weekdays are Monday to Friday, whether free or not
abbrev pub is_of_kind : FreeDays → DayKind → ℕ → Bool
is_of_kind free Days day = true
is_of_kind free Weekdays day = nat_lt (weekday day) 5
is_of_kind free Workdays day = is_workday free day

-- the days after this one up to 12/31/9999, the next first
abbrev pub days_after : ℕ → List ℕ
days_after day = range_with_len (day + 1) (last_day - day)

-- the numbers below this one, the nearest first
unfoldable pub below : ℕ → List ℕ
below zero = []
below (suc n) = n ∷ below n

-- the days before this one back to 01/01/1970, the nearest first
abbrev pub days_before : ℕ → List ℕ
days_before day = below (min day (last_day + 1))

-- the day itself, or the nth of the days of the kind after it, or before it for a negative n
abbrev pub nth_day : FreeDays → ℕ → ℤ → DayKind → Option ℕ
nth_day free day (pos zero) kind = Some day
nth_day free day (pos (suc n)) kind = slice_get (filter (is_of_kind free kind) (days_after day)) n
nth_day free day (negsuc n) kind = slice_get (filter (is_of_kind free kind) (days_before day)) n
