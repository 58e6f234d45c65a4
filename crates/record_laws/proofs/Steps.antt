-- The steps of fit rows type fit lines.
use Rattle.std.proofs.Common.{[], ℕ, ◌+◌, ◌∷◌, IfSome, List, None, Option, Some}
use Rattle.std.proofs.lemmas.List.Elements.{All-cons, All-head, All-nil, All-tail}
use Rattle.std.specs.List.{All, cons_option}
use Rattle.record_rows.specs.declared.rows.Row.{Row}
use Rattle.record_rows.specs.declared.rows.Row.TheVariants as row
use Rattle.record_rows.specs.declared.rows.OwnRow.{OwnRow}
use Rattle.record_rows.specs.declared.rows.OwnRow.TheVariants as own
use Rattle.record_rows.specs.declared.rows.CutRow.{CutRow}
use Rattle.record_rows.specs.declared.rows.CutRow.TheVariants as cut
use Rattle.record_rows.specs.declared.rows.StepRow.{StepRow}
use Rattle.record_rows.specs.declared.rows.StepRow.TheVariants as step
use Rattle.record_script.specs.Numbers.{Numbered, ws_no}
use Rattle.record_script.specs.Steps.{cut_step, own_step, step_at, step_form, steps_from}
use Rattle.record_script.specs.declared.scripts.ScriptStep.{ScriptStep}
use Rattle.record_laws.proofs.Fits.{IsFitForm, IsFitOne, IsFitStepOf}
use Rattle.record_laws.proofs.FitRows.{IsFitCut, IsFitOwn, IsFitRow, IsFitStepRow}

own_fit : (w : ℕ) (o : OwnRow) → IsFitOwn o → IsFitOne (own_step w o)
unfolding own_step
own_fit w (own.Turn t) h = tt
own_fit w (own.Started j) h = tt
own_fit w (own.Failed j) h = tt
own_fit w (own.Ended j rc) h = tt
own_fit w (own.Typed line) h = h

cut_fit : (n : Numbered) (w : ℕ) (c : CutRow) → IsFitCut c → IsFitOne (cut_step n w c)
unfolding cut_step
cut_fit n w cut.Next h = tt
cut_fit n w (cut.NextDay d) h = tt
cut_fit n w (cut.Own o) h = own_fit w o h
cut_fit n w (cut.Deliver a k) h = tt

form_fit : (n : Numbered) (s : StepRow) → IsFitStepRow s → IsFitForm (step_form n s)
unfolding step_form
form_fit n step.Next h = tt
form_fit n (step.NextDay d) h = tt
form_fit n (step.Own w o) h = own_fit (ws_no n w) o h
form_fit n (step.Link a b) h = tt
form_fit n (step.Unlink a b) h = tt
form_fit n (step.Deliver a b k) h = tt
form_fit n (step.Flow a b) h = tt
form_fit n (step.Reap w rc) h = tt
form_fit n (step.Crash w) h = tt
form_fit n (step.CrashIn w kept c) h = cut_fit n (ws_no n w) c h
form_fit n (step.Fulfil w o i) h = tt
form_fit n (step.Recover w) h = tt

at_fit : (n : Numbered) (line : ℕ) (r : Row) → IsFitRow r → IfSome (step_at n (line, r)) IsFitStepOf
at_fit n line (row.Step s) h = form_fit n s h
at_fit n line r h = tt

more_fit : (o : Option ScriptStep) (steps : List ScriptStep) → IfSome o IsFitStepOf → All IsFitStepOf steps
    → All IsFitStepOf (cons_option o steps)
more_fit None steps h k = k
more_fit (Some s) steps h k = All-cons IsFitStepOf s steps h k

from_fit : (n : Numbered) (rows : List Row) (line : ℕ) → All IsFitRow rows → All IsFitStepOf (steps_from n line rows)
from_fit n [] line h = All-nil IsFitStepOf
from_fit n (r ∷ rows) line h =
    more_fit (step_at n (line, r)) (steps_from n (line + 1) rows) (at_fit n line r (All-head IsFitRow r rows h))
    (from_fit n rows (line + 1) (All-tail IsFitRow r rows h))

pub steps_fit : (n : Numbered) (rows : List Row) → All IsFitRow rows → All IsFitStepOf (steps_from n 1 rows)
steps_fit n rows h = from_fit n rows 1 h
