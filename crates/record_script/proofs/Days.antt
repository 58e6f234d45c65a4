-- A record without definitions takes no plan of a day.
use Rattle.std.proofs.Common.{◌≡◌, ℕ, ◌+◌, Bool, true, false, ◌||◌, List, [], ◌∷◌, None, refl, ap, ◌∙◌}
use Rattle.std.specs.List.{list_any}
use Rattle.lemmas.proofs.Booleans.{neither}
use Rattle.record_rows.specs.declared.rows.Row.{Row}
use Rattle.record_rows.specs.declared.rows.Row.TheVariants as row
use Rattle.record_rows.specs.declared.rows.StepRow.{StepRow}
use Rattle.record_rows.specs.declared.rows.StepRow.TheVariants as step
use Rattle.record_rows.specs.declared.rows.CutRow.TheVariants as cut
use Rattle.record_rows.specs.declared.rows.OwnRow.{OwnRow}
use Rattle.record_rows.specs.declared.rows.OwnRow.TheVariants as own
use Rattle.record_rows.specs.Rows.{rows_of}
use Rattle.record_faults.specs.declared.places.Place.{Place}
use Rattle.record_faults.specs.declared.places.Place.TheVariants as place
use Rattle.record_faults.specs.declared.places.Fate.{Fate}
use Rattle.record_faults.specs.declared.places.Fate.TheVariants as fate
use Rattle.record_faults.specs.Places.{fate_of, settled, row_at, below_row, placed_from, may_stand}
use Rattle.record_script.specs.Numbers.{Numbered, numbered, ws_no}
use Rattle.record_script.specs.Steps.{own_step, cut_step, step_form, steps_from, steps_of}
use Rattle.record_script.specs.Inside.{takes_day}
use Rattle.record_script.specs.Scripts.{is_definitions, fault_of, placed}
use Rattle.record_script.specs.declared.scripts.StepForm.TheVariants as form
use Rattle.record_script.proofs.Readings.{no_fault}
use Rattle.record_script.proofs.Whole.{no_definitions}

-- a place without definitions above it
abbrev dayless : Place → Bool
dayless place.Definitions = false
dayless place.DaySteps = false
dayless p = true

abbrev is_day : Row → Bool
is_day (row.Step (step.NextDay d)) = true
is_day (row.Step (step.CrashIn w k (cut.NextDay d))) = true
is_day r = false

stands_dayless : (p : Place) (r : Row) → dayless p ≡ true → fate_of p r ≡ fate.Stands → is_definitions r ≡ false
    → (dayless (below_row p r) ≡ true) × (is_day r ≡ false)
unfolding fate_of may_stand below_row
stands_dayless place.Definitions r l is d = absurd (let wrong : false ≡ true = l in cc)
stands_dayless place.DaySteps r l is d = absurd (let wrong : false ≡ true = l in cc)
stands_dayless place.Steps (row.Step (step.NextDay n)) l is d = absurd (cc)
stands_dayless place.Steps (row.Step (step.CrashIn w k (cut.NextDay n))) l is d = absurd (cc)
stands_dayless place.Steps (row.Step s) l is d = (refl, refl)
stands_dayless p (row.Step s) l is d = absurd (cc)
stands_dayless p row.Definitions l is d = absurd (let wrong : true ≡ false = d in cc)
stands_dayless p r l is d = (refl, refl)

same_below : (p : Place) → (below_row p row.Skipped ≡ p) × (below_row p row.NoForm ≡ p)
unfolding below_row
same_below p = (refl, refl)

row_dayless : (p : Place) (r : Row) (f : Fate) → dayless p ≡ true → fate_of p r ≡ f → is_definitions (settled f r) ≡ false
    → (dayless (below_row p (settled f r)) ≡ true) × (is_day (settled f r) ≡ false)
row_dayless p r fate.Skipped l is d = (ap dayless (same_below p).0 ∙ l, refl)
row_dayless p r fate.NoForm l is d = (ap dayless (same_below p).1 ∙ l, refl)
row_dayless p r fate.Stands l is d = stands_dayless p r l is d

days_from : (p : Place) (raw : List Row) → dayless p ≡ true → list_any is_definitions (placed_from p raw) ≡ false
    → list_any is_day (placed_from p raw) ≡ false
unfolding placed_from
days_from p [] l d = refl
days_from p (r ∷ raw) l d =
    let next : Place = below_row p (row_at p r) in
    let other = neither (is_definitions (row_at p r)) (list_any is_definitions (placed_from next raw)) d in
    let here = row_dayless p r (fate_of p r) l refl other.0 in
    ap (λ b. b || list_any is_day (placed_from next raw)) here.1 ∙ days_from next raw here.0 other.1

-- a step takes the plan of a day where its row does

own_day : (line w : ℕ) (o : OwnRow) (k : Bool)
    → (takes_day (record { line = line; form = form.One (own_step w o) }) ≡ false)
    × (takes_day (record { line = line; form = form.CrashIn w k (own_step w o) }) ≡ false)
unfolding own_step
own_day line w (own.Turn t) k = (refl, refl)
own_day line w (own.Started j) k = (refl, refl)
own_day line w (own.Failed j) k = (refl, refl)
own_day line w (own.Ended j rc) k = (refl, refl)
own_day line w (own.Typed l) k = (refl, refl)

day_same : (n : Numbered) (line : ℕ) (s : StepRow)
    → takes_day (record { line = line; form = step_form n s }) ≡ is_day (row.Step s)
unfolding step_form cut_step
day_same n line (step.Own w o) = (own_day line (ws_no n w) o true).0
day_same n line (step.CrashIn w k cut.Next) = refl
day_same n line (step.CrashIn w k (cut.NextDay d)) = refl
day_same n line (step.CrashIn w k (cut.Own o)) = (own_day line (ws_no n w) o k).1
day_same n line (step.CrashIn w k (cut.Deliver a d)) = refl
day_same n line s = refl

days_same : (n : Numbered) (line : ℕ) (rows : List Row) → list_any takes_day (steps_from n line rows) ≡ list_any is_day rows
days_same n line [] = refl
days_same n line (row.Step s ∷ rows) =
    ap (λ b. b || list_any takes_day (steps_from n (line + 1) rows)) (day_same n line s)
    ∙ ap (λ b. is_day (row.Step s) || b) (days_same n (line + 1) rows)
days_same n line (r ∷ rows) = days_same n (line + 1) rows

pub no_day : (text : List ℕ) → fault_of (placed text) ≡ None → list_any takes_day (steps_of (placed text)) ≡ false
no_day text e =
    let f = no_fault (placed text) e in
    days_same (numbered (placed text)) 1 (placed text)
    ∙ days_from place.Nothing (rows_of text) refl (no_definitions (placed text) f.0)
