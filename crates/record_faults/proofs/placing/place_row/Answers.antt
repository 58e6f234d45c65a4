use Rattle.std.proofs.Common.{◌≡◌, sym, ◌∙◌, ap}
use Rattle.record_faults.specs.Places.{fate_of}
use Rattle.record_faults.proofs.PlacedRows.{row_stays, passed_over, without_form}
use Rattle.record_faults.proofs.placing.place_row.Goals as goal

pub returns-in-Stands-clause-row : goal.returns-in-Stands-clause-row
returns-in-Stands-clause-row c = λ r e.
    let same : c.in-Some.row.now ≡ r = cc (c.in-Some.ensures.item, e) in
    row_stays c.args.rows.now c.args.i c.args.above r e
    (ap (fate_of c.args.above) (sym same) ∙ sym c.fate_of-fate.ensures ∙ c.in-Stands.is)

pub returns-in-Skipped-clause-below : goal.returns-in-Skipped-clause-below
returns-in-Skipped-clause-below c = λ r e.
    let same : c.in-Some.row.now ≡ r = cc (c.in-Some.ensures.item, e) in
    passed_over c.args.above r (ap (fate_of c.args.above) (sym same) ∙ sym c.fate_of-fate.ensures ∙ c.in-Skipped.is)

pub returns-in-NoForm-clause-below : goal.returns-in-NoForm-clause-below
returns-in-NoForm-clause-below c = λ r e.
    let same : c.in-Some.row.now ≡ r = cc (c.in-Some.ensures.item, e) in
    without_form c.args.above r (ap (fate_of c.args.above) (sym same) ∙ sym c.fate_of-fate.ensures ∙ c.in-NoForm.is)
