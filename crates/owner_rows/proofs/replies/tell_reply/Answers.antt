use Rattle.std.proofs.Common.{refl, sym, ◌∙◌}
use Rattle.std.proofs.Math.Dec.{eqb}
use Rattle.lemmas.proofs.Numbers.{number_itself, number_tells}
use Rattle.owner_rows.specs.Replies.{IsReplyRow}
use Rattle.owner_rows.specs.Subjects.{prompt_in}
use Rattle.owner_rows.specs.Tables.{row_in}
use Rattle.owner_rows.proofs.ReplyTelling.{reply_quiet, reply_told}
use Rattle.owner_rows.proofs.Rows.{rows_stay, rows_told}
use Rattle.owner_rows.proofs.replies.tell_reply.Goals as goal

pub returns-in-Some : goal.returns-in-Some
returns-in-Some c kept room counts h =
    rows_told eqb number_tells number_itself IsReplyRow prompt_in reply_quiet kept c.args.e.now (row_in c.args.replies.now) h
    (c.in-Some.w, c.in-Some.p) c.reply_after.result (row_in c.put.new.self) (sym c.prompt_key.ensures ∙ c.in-Some.is) room
    (λ short subject. reply_told _ c.args.e.now.body c.in-Some.p c.row-count.result c.reply_after.result subject
    (c.row-count.ensures ∙ counts c.in-Some.w 0 refl) c.reply_after.ensures) c.put.ensures

pub returns-in_default : goal.returns-in_default
returns-in_default c kept room counts h =
    rows_stay eqb number_tells number_itself IsReplyRow prompt_in reply_quiet kept c.args.e.now (row_in c.args.replies.now) h
    (sym c.prompt_key.ensures ∙ c.in_default.is)
