use Rattle.std.proofs.Common.{subst, sym, ◌∙◌}
use Rattle.std.proofs.Math.Dec.{eqb}
use Rattle.lemmas.proofs.Numbers.{number_itself, number_tells}
use Rattle.owner_rows.specs.Objects.{IsRowOfObject}
use Rattle.owner_rows.specs.Subjects.{object_number_in}
use Rattle.owner_rows.specs.Tables.{row_in}
use Rattle.owner_rows.proofs.ObjectTelling.{object_row_quiet}
use Rattle.owner_rows.proofs.Rows.{rows_stay, rows_told}
use Rattle.owner_rows.proofs.objects.tell_object.Goals as goal

pub returns-in-Some : goal.returns-in-Some
returns-in-Some c kept room h =
    rows_told eqb number_tells number_itself IsRowOfObject object_number_in object_row_quiet kept c.args.e.now (row_in c.args.rows.now) h
    (c.in-Some.w, c.in-Some.n) c.told.result (row_in c.put.new.self) (sym c.object_key.ensures ∙ c.in-Some.is) room
    (λ short subject. c.told.ensures _ _ short subject
    (subst (IsRowOfObject _ c.in-Some.n) (sym c.row-row.ensures) (h c.in-Some.w c.in-Some.n)))
    c.put.ensures

pub returns-in_default : goal.returns-in_default
returns-in_default c kept room h =
    rows_stay eqb number_tells number_itself IsRowOfObject object_number_in object_row_quiet kept c.args.e.now (row_in c.args.rows.now) h
    (sym c.object_key.ensures ∙ c.in_default.is)
