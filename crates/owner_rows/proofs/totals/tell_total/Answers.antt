use Rattle.std.proofs.Common.{sym, ◌∙◌}
use Rattle.std.proofs.Math.Dec.{eqb}
use Rattle.std.specs.Option.{option_or}
use Rattle.lemmas.proofs.Numbers.{number_itself, number_tells}
use Rattle.owner_rows.specs.Subjects.{resource_in}
use Rattle.owner_rows.specs.Tables.{row_in}
use Rattle.owner_rows.specs.Totals.{IsTotalRow}
use Rattle.owner_rows.proofs.Rows.{rows_stay, rows_told}
use Rattle.owner_rows.proofs.TotalTelling.{total_quiet, total_told}
use Rattle.owner_rows.proofs.totals.tell_total.Goals as goal

pub returns-in-Some : goal.returns-in-Some
returns-in-Some c kept room h =
    rows_told eqb number_tells number_itself IsTotalRow resource_in total_quiet kept c.args.e.now (row_in c.args.totals.now) h
    (c.in-Some.w, c.in-Some.r) c.set_after.result (row_in c.put.new.self) (sym c.resource_key.ensures ∙ c.in-Some.is)
    room
    (λ short subject. total_told _ c.args.e.now.body c.in-Some.r _ c.set_after.result (h c.in-Some.w c.in-Some.r)
    (c.set_after.ensures
    ∙ λ i. option_or (c.total_of.ensures i) (c.row-before.ensures i))) c.put.ensures

pub returns-in_default : goal.returns-in_default
returns-in_default c kept room h =
    rows_stay eqb number_tells number_itself IsTotalRow resource_in total_quiet kept c.args.e.now (row_in c.args.totals.now) h
    (sym c.resource_key.ensures ∙ c.in_default.is)
