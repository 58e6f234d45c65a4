-- What statements give in a range of days.
use Rattle.std.specs.Prelude.{ℕ, ◌+◌, Bool, List, Option, max, min, option_and_then}
use Rattle.std.specs.List.{list_any}
use Rattle.std.specs.Option.{option_map_or}
use Rattle.calendars.specs.Dates.{last_day}
use Rattle.calendars.specs.declared.FreeDays.{FreeDays}
use Rattle.composer_parser.specs.declared.CycleDef.{CycleDef}
use Rattle.composer_parser.specs.declared.Defs.{Defs}
use Rattle.composer_parser.specs.declared.Offset.{Offset}
use Rattle.composer_parser.specs.declared.OnItem.{OnItem}
use Rattle.day_counts.specs.Runs.{days_between}
use Rattle.run_cycles.specs.Items.{gives, gives_calendar}

-- the last day of a run cycle
abbrev pub last_of : Option CycleDef → Option ℕ
last_of cycle = option_and_then (λ (c : CycleDef). c.last) cycle

-- where a range begins and ends within the bounds of a run cycle
abbrev pub later_of : Option ℕ → ℕ → ℕ
later_of first from = option_map_or (λ d. max from (min d (last_day + 1))) first from

abbrev pub earlier_of : Option ℕ → ℕ → ℕ
earlier_of last end = option_map_or (λ d. min end (min d last_day + 1)) last end

-- an item gives a day from one on and before another
abbrev pub gives_within : Defs → FreeDays → Option ℕ → ℕ → ℕ → OnItem → Bool
gives_within d free first from end item = list_any (λ day. gives d free first day item) (days_between from end)

abbrev pub calendar_gives : FreeDays → Option Offset → ℕ → ℕ → List ℕ → Bool
calendar_gives free offset from end dates = list_any (λ day. gives_calendar free offset day dates) (days_between from end)
