use Rattle.input_commands.proofs.Histories.{text_history, text_result, no_text_history, told_history}
use Rattle.input_commands.proofs.audits.read_bytes.Goals as goal

pub returns-in-Ok-clause-read : goal.returns-in-Ok-clause-read
returns-in-Ok-clause-read c =
    text_result c.args.bytes.now _ c.read_history.result c.in-Ok.ensures.cases.0 c.in-Ok.ensures.cases.1
    c.read_history.ensures.read

pub returns-in-Ok-clause-at : goal.returns-in-Ok-clause-at
returns-in-Ok-clause-at c = λ n k e.
    text_history c.args.bytes.now _ _ c.in-Ok.ensures.cases.0 c.in-Ok.ensures.cases.1
    (c.read_history.ensures.at n k e)

pub returns-in-Err-clause-at : goal.returns-in-Err-clause-at
returns-in-Err-clause-at c = λ n k e.
    told_history c.args.bytes.now _ n _ k e
    (no_text_history c.args.bytes.now c.valid_up_to.result c.line_at.result
    (rw c.valid_up_to.ensures c.in-Err.ensures.cases.1) c.line_at.ensures)
