-- How many days of a kind stand before a day, and which dates have their nth day in a range.
use Rattle.std.specs.Prelude.{◌≡◌, ℕ, ◌+◌, Bool, false, not, ◌&&◌, ◌==◌, List, length, filter, min, nat_le, nat_lt}
use Rattle.std.specs.Prelude.{Option, if◌then◌else◌, ℤ, pos, neg_ℤ}
use Rattle.std.specs.List.{list_any}
use Rattle.std.specs.Option.{option_map_or}
use Rattle.calendars.specs.Dates.{last_day}
use Rattle.calendars.specs.Nth.{below, is_of_kind, nth_day}
use Rattle.calendars.specs.Sets.{has}
use Rattle.calendars.specs.declared.FreeDays.{FreeDays}
use Rattle.calendars.specs.declared.DayKind.{DayKind}
use Rattle.day_counts.specs.Weeks.{is_weekly}
use Rattle.day_counts.specs.declared.counted_days.Step.{Step}

-- how many days of the kind stand before a day
abbrev pub count_before : FreeDays → DayKind → ℕ → ℕ
count_before free kind day = length (filter (is_of_kind free kind) (below day))

-- how many of these days stand before a day
abbrev pub rank : List ℕ → ℕ → ℕ
rank days day = length (filter (λ one. nat_lt one day) days)

-- a day from one on and before another
abbrev pub is_between : ℕ → ℕ → ℕ → Bool
is_between from end day = nat_le from day && nat_lt day end

abbrev pub is_within : ℕ → ℕ → Option ℕ → Bool
is_within from end found = option_map_or (is_between from end) found false

-- after a date, or before it
abbrev pub signed : Step → ℤ
signed step = if step.plus then pos step.n else neg_ℤ (pos step.n)

-- the day to which a step leads from a date
abbrev pub moved : FreeDays → Step → ℕ → Option ℕ
moved free step date = nth_day free date (signed step) step.kind

-- from one of the dates the step leads to a day from one on and before another
abbrev pub moves_within : FreeDays → Step → ℕ → ℕ → List ℕ → Bool
moves_within free step from end dates = list_any (λ date. is_within from end (moved free step date)) dates

-- the number that a date has by a step, and the number that a day has to which it leads
abbrev pub place_of : FreeDays → Step → ℕ → ℕ
place_of free step date =
    if step.n == 0 then date else
    if step.plus then count_before free step.kind (min date last_day + 1) + step.n else
    count_before free step.kind (min date (last_day + 1))

abbrev pub bound_of : FreeDays → Step → ℕ → ℕ
bound_of free step day =
    if step.n == 0 then day else
    if step.plus then count_before free step.kind day + 1 else
    count_before free step.kind day + step.n

-- the free dates that are no free Saturdays and Sundays
pub record IsExtra (free : FreeDays) (extra : List ℕ) : Type 0 where
  pub same : (day : ℕ) → has extra day ≡ (has free.dates day && not (is_weekly free.sa free.su day))
