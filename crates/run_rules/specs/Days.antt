-- The days of a rule.
use Rattle.std.specs.Prelude.{ℕ, ◌+◌, ◌-◌, ◌/◌, ◌%◌, Bool, false, ◌&&◌, ◌==◌, nat_le, nat_lt, List, codes, Option, unwrap_or, option_and_then}
use Rattle.std.specs.List.{list_any}
use Rattle.std.specs.Option.{option_map_or}
use Rattle.syntax.specs.Numbers.{signed_of}
use Rattle.calendars.specs.Dates.{weekday}
use Rattle.model.specs.Words.{some_is}
use Rattle.run_rules.specs.Parts.{value_of, listed, frequency_of, interval_of, weekday_of}
use Rattle.run_rules.specs.Months.{all_months, is_in_month, kth, is_kth}
use Rattle.run_rules.specs.declared.parts.Frequency.{Frequency}
use Rattle.run_rules.specs.declared.parts.Frequency.TheVariants.{Daily, Weekly, Monthly}
use Rattle.run_rules.specs.declared.months.MonthPlace.{MonthPlace}

-- every nth number from one on
abbrev pub is_counted : ℕ → ℕ → ℕ → Bool
is_counted n from to = nat_lt 0 n && (nat_le from to && (to - from) % n == 0)

-- weeks begin on Mondays; 12/29/1969 was one
abbrev pub week_of : ℕ → ℕ
week_of day = (day + 3) / 7

-- the word is this day of the week
abbrev pub is_weekday : ℕ → List ℕ → Bool
is_weekday number word = some_is (weekday_of word) number

-- the day is one of these days of the week
abbrev pub has_weekday : List (List ℕ) → ℕ → Bool
has_weekday words day = list_any (is_weekday (weekday day)) words

-- of a month, its kth day
abbrev pub is_day_of_month : ℕ → ℕ → List ℕ → Bool
is_day_of_month m day word = some_is (option_and_then (kth m) (signed_of word)) day

-- every nth month from that of the first day on
abbrev pub counts_month : ℕ → ℕ → ℕ → Bool
counts_month n from m = list_any (λ f. is_in_month f from && is_counted n f m) all_months

-- the month that has the day counts, and has it as one of these
abbrev pub has_in_month : ℕ → List (List ℕ) → ℕ → ℕ → Bool
has_in_month n words from day =
    list_any (λ m. is_in_month m day && (counts_month n from m && list_any (is_day_of_month m day) words)) all_months

-- the same of the place of a day in its month
abbrev pub is_place : MonthPlace → List ℕ → Bool
is_place place word = option_map_or (is_kth place) (signed_of word) false

-- by its frequency: every nth day, the days of the week in every nth week, and the days of the month in every nth month
abbrev pub has_by : Frequency → List ℕ → ℕ → ℕ → ℕ → Bool
has_by Daily rule from day n = is_counted n from day
has_by Weekly rule from day n =
    is_counted n (week_of from) (week_of day) && has_weekday (listed (value_of (codes "BYDAY") rule)) day
has_by Monthly rule from day n = has_in_month n (listed (value_of (codes "BYMONTHDAY") rule)) from day

-- the rule has the day, counted from this first day on; without one the interval is 1, and any beginning tells the same
unfoldable pub rule_has : List ℕ → Option ℕ → ℕ → Bool
rule_has rule first day =
    option_map_or (has_by (frequency_of rule) rule (unwrap_or first 0) day) (interval_of rule) false
