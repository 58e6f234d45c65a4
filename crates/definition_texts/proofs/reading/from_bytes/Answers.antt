use Rattle.definition_texts.proofs.Readings.{no_text_reading}
use Rattle.definition_texts.proofs.reading.from_bytes.Goals as goal

pub returns-in-Err : goal.returns-in-Err
returns-in-Err c =
    rw c.refused.ensures
    (no_text_reading c.args.bytes.now c.valid_up_to.result c.line_at.result
    (rw c.valid_up_to.ensures c.in-Err.ensures.cases.1) c.line_at.ensures)
