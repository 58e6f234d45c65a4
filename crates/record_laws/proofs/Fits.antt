-- Plans, days and lines of a record that bring nothing but what an entry may have.
use Rattle.std.specs.Prelude.{◌≡◌, ℕ, List, Ok}
use Rattle.std.specs.List.{All}
use Rattle.model.specs.Types.{StreamDraft}
use Rattle.model.specs.Fit.{AreFit, IsFitDraft}
use Rattle.conman_syntax.specs.Fit.{IsFitLine}
use Rattle.conman_syntax.specs.declared.lines.Line.{Line}
use Rattle.record_runs.specs.Lines.{Day}
use Rattle.record_script.specs.declared.Script.{Script}
use Rattle.record_script.specs.declared.ScriptStep.{ScriptStep}
use Rattle.record_script.specs.declared.OneStep.{OneStep}
use Rattle.record_script.specs.declared.OneStep.TheVariants as one
use Rattle.record_script.specs.declared.StepForm.{StepForm}
use Rattle.record_script.specs.declared.StepForm.TheVariants as form

-- the drafts of a plan
abbrev pub IsFitPlan : List StreamDraft → Type 0
IsFitPlan drafts = AreFit IsFitDraft drafts

abbrev pub AreFitPlans : List (List StreamDraft) → Type 0
AreFitPlans plans = All IsFitPlan plans

-- every day that has drafts has fit ones
abbrev pub AreFitDays : Day → Type 0
AreFitDays plan = (day : ℕ) (drafts : List StreamDraft) → plan day ≡ Ok drafts → IsFitPlan drafts

-- a line of an operator whose names and texts are fit, however long its patterns are
abbrev pub IsFitTyped : Line → Type 0
IsFitTyped line = (most : ℕ) × IsFitLine most line

-- a step that types a line types a fit one
abbrev pub IsFitOne : OneStep → Type 0
IsFitOne (one.Typed w line) = IsFitTyped line
IsFitOne one.Next = Unit {0}
IsFitOne (one.NextDay d) = Unit {0}
IsFitOne (one.Turn w t) = Unit {0}
IsFitOne (one.Link a b) = Unit {0}
IsFitOne (one.Unlink a b) = Unit {0}
IsFitOne (one.Deliver a b k) = Unit {0}
IsFitOne (one.Started w j) = Unit {0}
IsFitOne (one.Failed w j) = Unit {0}
IsFitOne (one.Ended w j rc) = Unit {0}
IsFitOne (one.Fulfil w o i) = Unit {0}

abbrev pub IsFitForm : StepForm → Type 0
IsFitForm (form.One o) = IsFitOne o
IsFitForm (form.CrashIn w kept o) = IsFitOne o
IsFitForm (form.Flow a b) = Unit {0}
IsFitForm (form.Reap w rc) = Unit {0}
IsFitForm (form.Crash w) = Unit {0}
IsFitForm (form.Recover w) = Unit {0}

abbrev pub IsFitStepOf : ScriptStep → Type 0
IsFitStepOf s = IsFitForm s.form

-- the plans and the lines of a record
abbrev pub IsFitScript : Script → Type 0
IsFitScript script = AreFitPlans script.plans × All IsFitStepOf script.steps
