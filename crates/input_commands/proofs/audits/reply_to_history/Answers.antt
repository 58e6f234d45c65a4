use Rattle.std.proofs.Common.{◌≡◌, ℕ, ap, sym, Err}
use Rattle.std.specs.Result.{IfOk}
use Rattle.history_script.specs.declared.histories.HistoryKind.{HistoryKind}
use Rattle.input_commands.specs.declared.unsaid_replies.Reply.{Reply}
use Rattle.input_commands.specs.Lines.{refused_line, history_word}
use Rattle.input_commands.proofs.Calling.{by_two}
use Rattle.input_commands.proofs.Histories.{bad_history_result, history_result}
use Rattle.input_commands.proofs.audits.reply_to_history.Goals as goal

pub returns-in-Ok : goal.returns-in-Ok
returns-in-Ok c =
    history_result c.args.bytes.now c.in-Ok.history c.reply_to_audit.result c.in-Ok.ensures.read
    c.reply_to_audit.ensures

pub returns-in-Err-At : goal.returns-in-Err-At
returns-in-Err-At c =
    bad_history_result c.args.bytes.now c.in-Err-At.line c.in-Err-At.kind c.bad_history_line.result
    (c.in-Err-At.ensures.at c.in-Err-At.line c.in-Err-At.kind (ap Err c.in-Err-At.field-0-is))
    c.bad_history_line.ensures.status
    (by_two (λ (l : ℕ) (k : HistoryKind). IfOk c.bad_history_line.result
    (λ (a : Reply). a.text ≡ refused_line l (history_word k))) _ _ _ _ (sym c.in-Err-At.line-is)
    (sym c.in-Err-At.kind-is) c.bad_history_line.ensures.text) c.bad_history_line.ensures.world
