-- Dates of calendars and the days that they give, as steps.
use Rattle.std.proofs.Common.{◌≡◌, ℕ, ◌==◌, false, List, [], ◌∷◌, Option, Some, None, refl, ap, ◌∙◌}
use Rattle.std.specs.List.{list_any}
use Rattle.calendars.specs.declared.FreeDays.{FreeDays}
use Rattle.composer_parser.specs.declared.Offset.{Offset}
use Rattle.model.specs.Words.{ascending, some_is}
use Rattle.day_counts.specs.Counts.{moved, moves_within}
use Rattle.day_counts.specs.Runs.{days_between}
use Rattle.day_counts.proofs.Ranges.{any_swapped, some_in_range}
use Rattle.day_counts.proofs.Sets.{any_ascending}
use Rattle.run_cycles.specs.Clips.{calendar_gives}
use Rattle.run_cycles.specs.Items.{gives_calendar}
use Rattle.run_cycles.specs.Steps.{step_of}

-- the dates that give a day of a range are those from which the step leads there
by_moves : (free : FreeDays) (offset : Option Offset) (from end : ℕ) (dates : List ℕ)
    → moves_within free (step_of offset) from end dates
    ≡ list_any (λ day. list_any (λ date. some_is (moved free (step_of offset) date) day) dates) (days_between from end)
by_moves free offset from end dates =
    (λ i. list_any (λ date. some_in_range (moved free (step_of offset) date) from end i) dates)
    ∙ any_swapped (λ date day. some_is (moved free (step_of offset) date) day) dates (days_between from end)

pub by_step : (free : FreeDays) (offset : Option Offset) (from end : ℕ) (dates : List ℕ)
    → moves_within free (step_of offset) from end dates ≡ calendar_gives free offset from end dates
by_step free None from end dates = by_moves free None from end dates
by_step free (Some o) from end dates = by_moves free (Some o) from end dates

nowhere : (days : List ℕ) → false ≡ list_any (λ day. false) days
nowhere [] = refl
nowhere (day ∷ days) = nowhere days

pub no_dates : (free : FreeDays) (offset : Option Offset) (from end : ℕ) → false ≡ calendar_gives free offset from end []
no_dates free None from end = nowhere (days_between from end)
no_dates free (Some o) from end = nowhere (days_between from end)

-- the order of the dates, and how often each stands there, tells nothing
in_order : (free : FreeDays) (offset : Option Offset) (day : ℕ) (dates : List ℕ)
    → gives_calendar free offset day (ascending dates) ≡ gives_calendar free offset day dates
in_order free None day dates = any_ascending (λ date. date == day) dates
in_order free (Some o) day dates = any_ascending (λ date. some_is (moved free (step_of (Some o)) date) day) dates

pub any_order : (free : FreeDays) (offset : Option Offset) (from end : ℕ) (sorted dates : List ℕ) → sorted ≡ ascending dates
    → calendar_gives free offset from end sorted ≡ calendar_gives free offset from end dates
any_order free offset from end sorted dates is =
    ap (calendar_gives free offset from end) is
    ∙ (λ i. list_any (λ day. in_order free offset day dates i) (days_between from end))
