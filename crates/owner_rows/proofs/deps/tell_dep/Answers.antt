use Rattle.std.proofs.Common.{subst, sym, ◌∙◌}
use Rattle.owner_rows.specs.Deps.{IsRowOfDep}
use Rattle.owner_rows.specs.Subjects.{dep_number_in}
use Rattle.owner_rows.specs.Tables.{pair_row_in, same_key}
use Rattle.owner_rows.proofs.Keys.{key_is_itself, key_tells}
use Rattle.owner_rows.proofs.DepTelling.{dep_row_quiet}
use Rattle.owner_rows.proofs.Rows.{rows_stay, rows_told}
use Rattle.owner_rows.proofs.deps.tell_dep.Goals as goal

pub returns-in-Some : goal.returns-in-Some
returns-in-Some c kept room h =
    rows_told same_key key_tells key_is_itself IsRowOfDep dep_number_in dep_row_quiet kept c.args.e.now
    (pair_row_in c.args.rows.now) h (c.in-Some.w, (c.in-Some.n, c.in-Some.i)) c.told.result
    (pair_row_in c.put.new.self) (sym c.dep_key.ensures ∙ c.in-Some.is) room
    (λ short subject. c.told.ensures _ _ subject
    (subst (IsRowOfDep _ (c.in-Some.n, c.in-Some.i)) (sym c.row-row.ensures)
    (h c.in-Some.w (c.in-Some.n, c.in-Some.i)))) c.put.ensures

pub returns-in_default : goal.returns-in_default
returns-in_default c kept room h =
    rows_stay same_key key_tells key_is_itself IsRowOfDep dep_number_in dep_row_quiet kept c.args.e.now
    (pair_row_in c.args.rows.now) h (sym c.dep_key.ensures ∙ c.in_default.is)
