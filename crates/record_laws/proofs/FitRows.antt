-- Rows whose names and texts are no longer than an entry may have, and whose typed lines are fit.
use Rattle.std.proofs.Common.{List, ℕ}
use Rattle.model.specs.Fit.{IsFitText}
use Rattle.record_rows.specs.declared.rows.Ranged.{Ranged}
use Rattle.record_rows.specs.declared.rows.Ranged.TheVariants.{OutOfRange, Within}
use Rattle.record_rows.specs.declared.rows.Row.{Row}
use Rattle.record_rows.specs.declared.rows.Row.TheVariants as row
use Rattle.record_rows.specs.declared.rows.PartRow.{PartRow}
use Rattle.record_rows.specs.declared.rows.PartRow.TheVariants as part
use Rattle.record_rows.specs.declared.rows.DepRow.{DepRow}
use Rattle.record_rows.specs.declared.rows.DepRow.TheVariants as dep
use Rattle.record_rows.specs.declared.rows.OwnRow.{OwnRow}
use Rattle.record_rows.specs.declared.rows.OwnRow.TheVariants as own
use Rattle.record_rows.specs.declared.rows.CutRow.{CutRow}
use Rattle.record_rows.specs.declared.rows.CutRow.TheVariants as cut
use Rattle.record_rows.specs.declared.rows.StepRow.{StepRow}
use Rattle.record_rows.specs.declared.rows.StepRow.TheVariants as step
use Rattle.record_laws.proofs.Fits.{IsFitTyped}

-- a text that is within its range is fit
abbrev pub IsFitRanged : Ranged (List ℕ) → Type 0
IsFitRanged (Within t) = IsFitText t
IsFitRanged OutOfRange = Unit {0}

abbrev pub IsFitPart : PartRow → Type 0
IsFitPart (part.Command t) = IsFitRanged t
IsFitPart (part.Script t) = IsFitRanged t
IsFitPart (part.Logon t) = IsFitRanged t
IsFitPart (part.Cond t) = Unit {0}
IsFitPart (part.Recovery r) = Unit {0}

abbrev pub IsFitDepRow : DepRow → Type 0
IsFitDepRow (dep.FollowsStream w s) = IsFitText s
IsFitDepRow (dep.FollowsJob w s j) = IsFitText s × IsFitText j
IsFitDepRow (dep.FollowsOwn j) = IsFitText j
IsFitDepRow (dep.AskOwn t) = IsFitRanged t
IsFitDepRow (dep.Opens t) = IsFitRanged t
IsFitDepRow (dep.At t) = Unit {0}
IsFitDepRow (dep.Until t passed) = Unit {0}
IsFitDepRow (dep.Deadline t) = Unit {0}
IsFitDepRow (dep.Needs n name) = Unit {0}
IsFitDepRow (dep.AskGlobal name) = Unit {0}

-- lines that are typed
abbrev pub IsFitOwn : OwnRow → Type 0
IsFitOwn (own.Typed line) = IsFitTyped line
IsFitOwn (own.Turn t) = Unit {0}
IsFitOwn (own.Started j) = Unit {0}
IsFitOwn (own.Failed j) = Unit {0}
IsFitOwn (own.Ended j rc) = Unit {0}

abbrev pub IsFitCut : CutRow → Type 0
IsFitCut (cut.Own o) = IsFitOwn o
IsFitCut cut.Next = Unit {0}
IsFitCut (cut.NextDay d) = Unit {0}
IsFitCut (cut.Deliver a k) = Unit {0}

abbrev pub IsFitStepRow : StepRow → Type 0
IsFitStepRow (step.Own w o) = IsFitOwn o
IsFitStepRow (step.CrashIn w kept c) = IsFitCut c
IsFitStepRow step.Next = Unit {0}
IsFitStepRow (step.NextDay d) = Unit {0}
IsFitStepRow (step.Link a b) = Unit {0}
IsFitStepRow (step.Unlink a b) = Unit {0}
IsFitStepRow (step.Deliver a b k) = Unit {0}
IsFitStepRow (step.Flow a b) = Unit {0}
IsFitStepRow (step.Reap w rc) = Unit {0}
IsFitStepRow (step.Crash w) = Unit {0}
IsFitStepRow (step.Fulfil w o i) = Unit {0}
IsFitStepRow (step.Recover w) = Unit {0}

abbrev pub IsFitRow : Row → Type 0
IsFitRow (row.Stream s) = IsFitText s.name
IsFitRow (row.Job j) = IsFitText j.name
IsFitRow (row.Part p) = IsFitPart p
IsFitRow (row.Dep d) = IsFitDepRow d
IsFitRow (row.Step s) = IsFitStepRow s
IsFitRow r = Unit {0}
