-- What a day gives in a record: the drafts of its definitions, or why there are none.
use Rattle.std.specs.Prelude.{◌≡◌, ℕ, List, Option, Some, None, Result, Ok, Err, nat_le, true, false}
use Rattle.calendars.specs.Dates.{last_day}
use Rattle.composer_parser.specs.declared.Defs.{Defs}
use Rattle.model.specs.Types.{StreamDraft}
use Rattle.plan_builder.specs.Drafts.{AreDrafts}
use Rattle.plan_builder.specs.Limits.{plan_fault}
use Rattle.plan_builder.specs.declared.PlanFault.TheVariants.{Limit, OutOfRange}
use Rattle.record_runs.specs.Causes.{Cause, full_day, no_moment}
use Rattle.record_runs.specs.Days.{IsPlanOf}
use Rattle.record_runs.specs.Lines.{Day}

-- What definitions give for a day: its drafts; that it has too many streams or jobs for a plan; or that one of its times
-- has no moment, as none has behind the last day.
pub data GivesDay (d : Defs) (day : ℕ) : Result (List StreamDraft) Cause → Type 0 where
  behind : nat_le day last_day ≡ false → GivesDay d day (Err no_moment)
  full : (most : ℕ) → nat_le day last_day ≡ true → plan_fault d day ≡ Some (Limit most) → GivesDay d day (Err (full_day most))
  timeless : (line : ℕ) → nat_le day last_day ≡ true → plan_fault d day ≡ Some (OutOfRange line) → GivesDay d day (Err no_moment)
  drafts : (streams : List StreamDraft) → nat_le day last_day ≡ true → plan_fault d day ≡ None → AreDrafts d day streams
      → GivesDay d day (Ok streams)

-- the same of a record: without definitions no day has a plan, and no line asks for one
abbrev pub Gives : Option Defs → ℕ → Result (List StreamDraft) Cause → Type 0
Gives None day answer = answer ≡ Err no_moment
Gives (Some d) day answer = GivesDay d day answer

-- the plans of the days of a record
abbrev pub ArePlans : Option Defs → Day → Type 0
ArePlans workload day = IsPlanOf (Gives workload) day
