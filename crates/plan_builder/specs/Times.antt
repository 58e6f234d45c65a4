-- The moments of the times of a day's plan.
use Rattle.std.specs.Prelude.{ℕ, List, Bool, false, ◌&&◌, nat_le, is_none, unwrap_or, Option, Some, None, if◌then◌else◌, ℤ, pos, int_le, unsigned_abs, option_and_then}
use Rattle.std.specs.Option.{option_map_or}
use Rattle.calendars.specs.Dates.{last_day}
use Rattle.plan_times.specs.Moments.{date_of, seconds_of}
use Rattle.plan_times.specs.Zones.{east_of}
use Rattle.composer_parser.specs.declared.Lined.{Lined}
use Rattle.composer_parser.specs.declared.Defs.{Defs}
use Rattle.composer_parser.specs.declared.Clause.{Clause}
use Rattle.composer_parser.specs.declared.Clause.TheVariants.{At, Until, Deadline, Priority, Limit, CarryForward}
use Rattle.composer_parser.specs.declared.Clause.TheVariants.{Follows, Needs, Prompt, Opens}
use Rattle.plan_builder.specs.declared.times.PlanDay.{PlanDay}

-- STARTOFDAY, which is 0600 where it is not given, and the offset of TIMEZONE, which is 0
abbrev pub start_of : Defs → ℕ
start_of d = option_map_or (λ (s : Lined ℕ). s.item) d.start 360

abbrev pub zone_of : Defs → ℤ
zone_of d = unwrap_or (option_and_then (λ (z : Lined (List ℕ)). east_of z.item) d.zone) (pos 0)

abbrev pub plan_day : Defs → ℕ → PlanDay
plan_day d day = record { day = day; start = start_of d; east = zone_of d }

-- the date of a time of the plan, and its seconds since 1970
abbrev pub date_in : PlanDay → ℕ → Option ℕ → ℕ
date_in plan minute days = date_of plan.day minute (unwrap_or days 0) plan.start

abbrev pub seconds_in : PlanDay → ℕ → Option ℕ → ℤ
seconds_in plan minute days = seconds_of (date_in plan minute days) minute plan.east

-- it has a moment: its date is one to the end of 9999, and it is not before 1970
abbrev pub has_moment : PlanDay → ℕ → Option ℕ → Bool
has_moment plan minute days =
    nat_le (date_in plan minute days) last_day && int_le (pos 0) (seconds_in plan minute days)

abbrev pub moment_of : PlanDay → ℕ → Option ℕ → Option ℕ
moment_of plan minute days =
    if has_moment plan minute days then Some (unsigned_abs (seconds_in plan minute days)) else None

abbrev pub moment_or_first : PlanDay → ℕ → Option ℕ → ℕ
moment_or_first plan minute days = unwrap_or (moment_of plan minute days) 0

-- a clause has a time without a moment
abbrev pub is_timeless : PlanDay → Clause → Bool
is_timeless plan (At minute days) = is_none (moment_of plan minute days)
is_timeless plan (Until minute days u) = is_none (moment_of plan minute days)
is_timeless plan (Deadline minute days) = is_none (moment_of plan minute days)
is_timeless plan (Priority n) = false
is_timeless plan (Limit n) = false
is_timeless plan CarryForward = false
is_timeless plan (Follows ps) = false
is_timeless plan (Needs ns) = false
is_timeless plan (Prompt ps) = false
is_timeless plan (Opens paths) = false
