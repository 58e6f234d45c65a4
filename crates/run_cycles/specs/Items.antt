-- The days that an item of ON and EXCEPT gives, before they are shifted.
use Rattle.std.specs.Prelude.{ℕ, Bool, true, false, ◌&&◌, ◌==◌, nat_le, nat_lt, List, Option, Some, None, option_and_then, if◌then◌else◌, ℤ, pos, neg_ℤ}
use Rattle.std.specs.List.{list_any}
use Rattle.std.specs.Option.{option_map_or}
use Rattle.calendars.specs.Dates.{weekday}
use Rattle.calendars.specs.Free.{is_free, is_workday}
use Rattle.calendars.specs.Nth.{nth_day}
use Rattle.calendars.specs.declared.FreeDays.{FreeDays as Free}
use Rattle.calendars.specs.declared.DayKind.{DayKind}
use Rattle.calendars.specs.declared.DayKind.TheVariants as day_kind
use Rattle.composer_parser.specs.declared.Defs.{Defs}
use Rattle.composer_parser.specs.declared.CycleDef.{CycleDef}
use Rattle.composer_parser.specs.declared.Offset.{Offset}
use Rattle.composer_parser.specs.declared.OffsetUnit.{OffsetUnit}
use Rattle.composer_parser.specs.declared.OffsetUnit.TheVariants as unit
use Rattle.composer_parser.specs.declared.OnDef.{OnDef}
use Rattle.composer_parser.specs.declared.OnItem.{OnItem}
use Rattle.composer_parser.specs.declared.OnItem.TheVariants.{Weekday, EveryDay, Weekdays, Workdays, FreeDays}
use Rattle.composer_parser.specs.declared.OnItem.TheVariants.{Request, Date, Rule, Calendar}
use Rattle.model.specs.Words.{some_is}
use Rattle.run_rules.specs.Days.{rule_has}
use Rattle.workload_defs.specs.Days.{days_of}

-- the bounds of a run cycle, both included
abbrev pub is_from : Option ℕ → ℕ → Bool
is_from first day = option_map_or (λ d. nat_le d day) first true

abbrev pub is_to : Option ℕ → ℕ → Bool
is_to last day = option_map_or (λ d. nat_le day d) last true

abbrev pub is_valid : Option CycleDef → ℕ → Bool
is_valid cycle day = option_map_or (λ (c : CycleDef). is_from c.first day && is_to c.last day) cycle true

abbrev pub first_of : Option CycleDef → Option ℕ
first_of cycle = option_and_then (λ (c : CycleDef). c.first) cycle

-- what an offset counts
abbrev pub kind_of : OffsetUnit → DayKind
kind_of unit.Days = day_kind.Days
kind_of unit.Weekdays = day_kind.Weekdays
kind_of unit.Workdays = day_kind.Workdays

-- after a date, or before it
abbrev pub signed : Offset → ℤ
signed o = if o.plus then pos o.n else neg_ℤ (pos o.n)

-- the nth day of the kind after a date or before it, where there is one
abbrev pub moved : Free → Offset → ℕ → Option ℕ
moved free o date = nth_day free date (signed o) (kind_of o.unit)

abbrev pub moves_to : Free → Offset → ℕ → ℕ → Bool
moves_to free o day date = some_is (moved free o date) day

-- the dates of a calendar, or for each of them the nth day
abbrev pub gives_calendar : Free → Option Offset → ℕ → List ℕ → Bool
gives_calendar free None day dates = list_any (λ date. date == day) dates
gives_calendar free (Some o) day dates = list_any (moves_to free o day) dates

-- an item gives a day, where rules count from this first day on: REQUEST gives none
abbrev pub gives : Defs → Free → Option ℕ → ℕ → OnItem → Bool
gives d free first day (Weekday number) = weekday day == number
gives d free first day EveryDay = true
gives d free first day Weekdays = nat_lt (weekday day) 5
gives d free first day Workdays = is_workday free day
gives d free first day FreeDays = is_free free day
gives d free first day Request = false
gives d free first day (Date date) = day == date
gives d free first day (Rule rule) = rule_has rule first day
gives d free first day (Calendar name offset) = gives_calendar free offset day (days_of d name)

-- the dates of a statement: those that an item gives within the bounds
abbrev pub is_dated : Defs → Free → OnDef → ℕ → Bool
is_dated d free on day = is_valid on.cycle day && list_any (gives d free (first_of on.cycle) day) on.items
