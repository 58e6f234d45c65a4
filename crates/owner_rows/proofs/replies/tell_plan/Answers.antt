use Rattle.std.proofs.Common.{sym, ◌∙◌}
use Rattle.std.proofs.Math.Dec.{eqb}
use Rattle.lemmas.proofs.Numbers.{number_itself, number_tells}
use Rattle.owner_rows.specs.Replies.{IsPlanRow}
use Rattle.owner_rows.specs.Subjects.{plan_in}
use Rattle.owner_rows.specs.Tables.{row_in}
use Rattle.owner_rows.proofs.ReplyTelling.{plan_quiet, plan_told, told_is_plan}
use Rattle.owner_rows.proofs.Rows.{rows_stay, rows_told}
use Rattle.owner_rows.proofs.replies.tell_plan.Goals as goal

pub returns-in-Some : goal.returns-in-Some
returns-in-Some c kept room h =
    rows_told eqb number_tells number_itself IsPlanRow plan_in plan_quiet kept c.args.e.now (row_in c.args.plans.now) h
    (c.in-Some.w, c.in-Some.n) c.counted.result (row_in c.put.new.self) (sym c.plan_key.ensures ∙ c.in-Some.is) room
    (λ short subject. plan_told _ c.args.e.now.body c.in-Some.n c.row-count.result c.counted.result short
    (λ z. c.row-count.ensures ∙ h c.in-Some.w c.in-Some.n z) (told_is_plan c.args.e.now.body c.in-Some.n subject)
    c.counted.ensures) c.put.ensures

pub returns-in_default : goal.returns-in_default
returns-in_default c kept room h =
    rows_stay eqb number_tells number_itself IsPlanRow plan_in plan_quiet kept c.args.e.now (row_in c.args.plans.now) h
    (sym c.plan_key.ensures ∙ c.in_default.is)
