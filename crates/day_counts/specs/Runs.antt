-- Ranges of days, and free days directly beside a day.
use Rattle.std.specs.Prelude.{◌≡◌, ℕ, ◌-◌, ◌+◌, ◌<◌, ◌≤◌, true, false, List}
use Rattle.std.specs.List.{range_with_len}
use Rattle.calendars.specs.Dates.{last_day}
use Rattle.calendars.specs.Free.{is_free}
use Rattle.calendars.specs.declared.FreeDays.{FreeDays}

-- the days from one on and before another
abbrev pub days_between : ℕ → ℕ → List ℕ
days_between from end = range_with_len from (end - from)

-- the first of the free days directly before a day, and the day itself where there are none
pub record IsRunBefore (free : FreeDays) (day from : ℕ) : Type 0 where
  pub ordered : from ≤ day
  pub all : (one : ℕ) → from ≤ one → one < day → is_free free one ≡ true
  pub first : (one : ℕ) → one + 1 ≡ from → is_free free one ≡ false

-- the day behind the last of the free days directly behind a day
pub record IsRunBehind (free : FreeDays) (day end : ℕ) : Type 0 where
  pub ordered : day + 1 ≤ end
  pub within : end ≤ last_day + 1
  pub all : (one : ℕ) → day + 1 ≤ one → one < end → is_free free one ≡ true
  pub last : end ≤ last_day → is_free free end ≡ false
