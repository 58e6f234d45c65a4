use Rattle.std.proofs.Math.Dec.{eqb}
use Rattle.std.proofs.Common.{sym, ◌∙◌}
use Rattle.lemmas.proofs.Numbers.{number_itself, number_tells}
use Rattle.owner_rows.specs.Answers.{IsAnswerRow}
use Rattle.owner_rows.specs.Subjects.{issuer_in}
use Rattle.owner_rows.specs.Tables.{row_in}
use Rattle.owner_rows.proofs.AnswerTelling.{answer_quiet, answer_told}
use Rattle.owner_rows.proofs.Rows.{rows_stay, rows_told}
use Rattle.owner_rows.proofs.answers.tell_answer.Goals as goal

pub returns-in-Some : goal.returns-in-Some
returns-in-Some c kept room h =
    rows_told eqb number_tells number_itself IsAnswerRow issuer_in answer_quiet kept c.args.e.now (row_in c.args.answers.now) h
    (c.in-Some.w, c.in-Some.a) c.counted.result (row_in c.put.new.self) (sym c.issuer_key.ensures ∙ c.in-Some.is) room
    (λ short subject. answer_told _ c.args.e.now.body c.in-Some.a c.row-count.result c.counted.result c.is_answer.result short
    (c.row-count.ensures ∙ h c.in-Some.w c.in-Some.a) c.is_answer.ensures c.counted.ensures) c.put.ensures

pub returns-in_default : goal.returns-in_default
returns-in_default c kept room h =
    rows_stay eqb number_tells number_itself IsAnswerRow issuer_in answer_quiet kept c.args.e.now (row_in c.args.answers.now) h
    (sym c.issuer_key.ensures ∙ c.in_default.is)
