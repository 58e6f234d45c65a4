use Rattle.input_commands.proofs.Tellings.{text_read, text_result, no_text_read, told_read}
use Rattle.input_commands.proofs.records.read_bytes.Goals as goal

pub returns-in-Ok-clause-read : goal.returns-in-Ok-clause-read
returns-in-Ok-clause-read c =
    text_result c.args.bytes.now _ c.read_record.result c.in-Ok.ensures.cases.0 c.in-Ok.ensures.cases.1
    c.read_record.ensures.read

pub returns-in-Ok-clause-at : goal.returns-in-Ok-clause-at
returns-in-Ok-clause-at c = λ n k e.
    text_read c.args.bytes.now _ _ c.in-Ok.ensures.cases.0 c.in-Ok.ensures.cases.1 (c.read_record.ensures.at n k e)

pub returns-in-Err-clause-at : goal.returns-in-Err-clause-at
returns-in-Err-clause-at c = λ n k e.
    told_read c.args.bytes.now _ n _ k e
    (no_text_read c.args.bytes.now c.valid_up_to.result c.line_at.result
    (rw c.valid_up_to.ensures c.in-Err.ensures.cases.1) c.line_at.ensures)
