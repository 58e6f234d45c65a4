-- The plans of days: what is given for a day, and a line that takes the plan of one.
use Rattle.std.specs.Prelude.{◌≡◌, [], ℕ, ◌∷◌, List, None, Option, Result, Some, Err}
use Rattle.model.specs.Types.{Net, StreamDraft}
use Rattle.model.specs.World.{World}
use Rattle.record_script.specs.declared.OneStep.TheVariants as one
use Rattle.record_script.specs.declared.StepForm.{StepForm}
use Rattle.record_script.specs.declared.StepForm.TheVariants as form
use Rattle.record_runs.specs.Causes.{Cause, full_day, no_moment}
use Rattle.record_runs.specs.Lines.{Day}
use Rattle.record_runs.specs.Runs.{and_then, take_line}
use Rattle.record_runs.specs.declared.days.DayFault.{DayFault}
use Rattle.record_runs.specs.declared.days.DayFault.TheVariants as fault

-- what one gives for each day
abbrev pub Gives : Type 1
Gives = ℕ → Result (List StreamDraft) Cause → Type 0

-- this is what is given
abbrev pub IsPlanOf : Gives → Day → Type 0
IsPlanOf gives plan = (day : ℕ) (answer : Result (List StreamDraft) Cause) → gives day answer → plan day ≡ answer

-- the cause that is told is given, but for want of memory
abbrev pub GivesFault : (Result (List StreamDraft) Cause → Type 0) → DayFault → Type 0
GivesFault gives (fault.TooMany most) = gives (Err (full_day most))
GivesFault gives fault.NoMoment = gives (Err no_moment)
GivesFault gives fault.NoMemory = Unit {0}

-- the day for whose plan a line asks, and the same line with the next plan in its place
abbrev pub asked_day : StepForm → Option (ℕ × StepForm)
asked_day (form.One (one.NextDay d)) = Some (d, form.One one.Next)
asked_day (form.CrashIn w kept (one.NextDay d)) = Some (d, form.CrashIn w kept one.Next)
asked_day f = None

-- a line in which the plan of a day is taken as the next one
abbrev pub take_planned : Day → Net → ℕ → StepForm → World → Result World Cause
take_planned plan net day next x = and_then (plan day) (λ drafts. take_line plan net (drafts ∷ []) next x)
