use Rattle.std.proofs.Common.{inl}
use Rattle.composer_parser.proofs.Parsings.{stop_answer}
use Rattle.composer_parser.proofs.parsing.parse_tokens.Goals as goal

pub returns-in-Err-Here : goal.returns-in-Err-Here
returns-in-Err-Here c =
    let stops = rw c.in-Err-Here.field-0-is at c.in-Err-Here.ensures in
    inl (stop_answer c.args.last_line c.args.text.now c.args.tokens.now c.in-Err-Here.why c.in-Err-Here.left
    c.fault.result stops c.fault.ensures)
