use Rattle.std.proofs.Common.{◌≡◌, ℕ, ap, sym, Err}
use Rattle.std.specs.Result.{IfOk}
use Rattle.record_faults.specs.declared.kinds.ScriptKind.{ScriptKind}
use Rattle.input_commands.specs.declared.unsaid_replies.Reply.{Reply}
use Rattle.input_commands.specs.Lines.{refused_line, kind_word}
use Rattle.input_commands.proofs.Calling.{bad_line_result, by_two, run_result}
use Rattle.input_commands.proofs.SoundTexts.{has_printable, reaches_fit}
use Rattle.input_commands.proofs.records.reply_to_record.Goals as goal

pub reply_to_run-requires-clause-fit : goal.reply_to_run-requires-clause-fit
reply_to_run-requires-clause-fit c = reaches_fit c.args.bytes.now c.in-Ok.recorded c.requires c.in-Ok.ensures.read

pub reply_to_run-requires-clause-printable : goal.reply_to_run-requires-clause-printable
reply_to_run-requires-clause-printable c = has_printable c.args.bytes.now c.in-Ok.recorded c.in-Ok.ensures.read

pub returns-in-Ok-clause-called : goal.returns-in-Ok-clause-called
returns-in-Ok-clause-called c =
    run_result c.args.telling c.args.bytes.now c.in-Ok.recorded c.reply_to_run.result c.in-Ok.ensures.read
    c.reply_to_run.ensures.called

pub returns-in-Err-At-clause-called : goal.returns-in-Err-At-clause-called
returns-in-Err-At-clause-called c =
    bad_line_result c.args.telling c.args.bytes.now c.in-Err-At.line c.in-Err-At.kind c.bad_line.result
    (c.in-Err-At.ensures.at c.in-Err-At.line c.in-Err-At.kind (ap Err c.in-Err-At.field-0-is))
    c.bad_line.ensures.status
    (by_two (λ (l : ℕ) (k : ScriptKind). IfOk c.bad_line.result (λ (a : Reply). a.text ≡ refused_line l (kind_word k)))
    _ _ _ _ (sym c.in-Err-At.line-is) (sym c.in-Err-At.kind-is) c.bad_line.ensures.text) c.bad_line.ensures.world
