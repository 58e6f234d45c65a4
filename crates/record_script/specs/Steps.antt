-- The steps of a record, with their lines.
use Rattle.std.specs.Prelude.{ℕ, List, Option, Some, None, filter_map, pos}
use Rattle.std.specs.List.{enumerate_from}
use Rattle.model.specs.Types.{Obj, Job, Stream}
use Rattle.record_rows.specs.declared.rows.Row.{Row}
use Rattle.record_rows.specs.declared.rows.Row.TheVariants as row
use Rattle.record_rows.specs.declared.rows.OwnRow.{OwnRow}
use Rattle.record_rows.specs.declared.rows.OwnRow.TheVariants as own
use Rattle.record_rows.specs.declared.rows.ObjRow.{ObjRow}
use Rattle.record_rows.specs.declared.rows.ObjRow.TheVariants as obj
use Rattle.record_rows.specs.declared.rows.CutRow.{CutRow}
use Rattle.record_rows.specs.declared.rows.CutRow.TheVariants as cut
use Rattle.record_rows.specs.declared.rows.StepRow.{StepRow}
use Rattle.record_rows.specs.declared.rows.StepRow.TheVariants as step
use Rattle.record_script.specs.declared.scripts.OneStep.{OneStep}
use Rattle.record_script.specs.declared.scripts.OneStep.TheVariants as one
use Rattle.record_script.specs.declared.scripts.StepForm.{StepForm}
use Rattle.record_script.specs.declared.scripts.StepForm.TheVariants as form
use Rattle.record_script.specs.declared.scripts.ScriptStep.{ScriptStep}
use Rattle.record_script.specs.Numbers.{Numbered, numbered, numbered_by, ws_no, within}

-- a step of workstation w
unfoldable pub own_step : ℕ → OwnRow → OneStep
own_step w (own.Turn t) = one.Turn w (within 0 t)
own_step w (own.Started j) = one.Started w (within 0 j)
own_step w (own.Failed j) = one.Failed w (within 0 j)
own_step w (own.Ended j rc) = one.Ended w (within 0 j) (within (pos 0) rc)
own_step w (own.Typed line) = one.Typed w line

-- a step in which w may stop
unfoldable pub cut_step : Numbered → ℕ → CutRow → OneStep
cut_step n w cut.Next = one.Next
cut_step n w (cut.NextDay d) = one.NextDay d
cut_step n w (cut.Own o) = own_step w o
cut_step n w (cut.Deliver a k) = one.Deliver (ws_no n a) w (within 0 k)

abbrev pub object : ObjRow → Obj
object (obj.Job j) = Job (within 0 j)
object (obj.Stream s) = Stream (within 0 s)

-- The table of steps.
unfoldable pub step_form : Numbered → StepRow → StepForm
step_form n step.Next = form.One one.Next
step_form n (step.NextDay d) = form.One (one.NextDay d)
step_form n (step.Own w o) = form.One (own_step (ws_no n w) o)
step_form n (step.Link a b) = form.One (one.Link (ws_no n a) (ws_no n b))
step_form n (step.Unlink a b) = form.One (one.Unlink (ws_no n a) (ws_no n b))
step_form n (step.Deliver a b k) = form.One (one.Deliver (ws_no n a) (ws_no n b) (within 0 k))
step_form n (step.Flow a b) = form.Flow (ws_no n a) (ws_no n b)
step_form n (step.Reap w rc) = form.Reap (ws_no n w) (within (pos 0) rc)
step_form n (step.Crash w) = form.Crash (ws_no n w)
step_form n (step.CrashIn w kept c) = form.CrashIn (ws_no n w) kept (cut_step n (ws_no n w) c)
step_form n (step.Fulfil w o i) = form.One (one.Fulfil (ws_no n w) (object o) (within 0 i))
step_form n (step.Recover w) = form.Recover (ws_no n w)

-- a line that is a step
abbrev pub step_at : Numbered → ℕ × Row → Option ScriptStep
step_at n p = go p.1
  where
    go : Row → Option ScriptStep
    go (row.Step s) = Some (record { line = p.0; form = step_form n s })
    go r = None

-- the steps among rows, the first of which stands on this line
abbrev pub steps_from : Numbered → ℕ → List Row → List ScriptStep
steps_from n line rows = filter_map (step_at n) (enumerate_from line rows)

abbrev pub steps_of : List Row → List ScriptStep
steps_of rows = steps_from (numbered rows) 1 rows

-- the steps of a record whose workstations are defined elsewhere, in the order of their numbers
abbrev pub steps_by : List (List ℕ) → List Row → List ScriptStep
steps_by names rows = steps_from (numbered_by names) 1 rows
