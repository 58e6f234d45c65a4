use Rattle.std.proofs.Common.{ap, refl, Err}
use Rattle.std.proofs.lemmas.Str.{utf8_valid_len-IsUtf8}
use Rattle.definition_texts.proofs.Readings.{checked_reading, unexpected_reading, left_out_reading}
use Rattle.definition_texts.proofs.reading.from_tokens.Goals as goal

pub returns-in-Ok : goal.returns-in-Ok
returns-in-Ok c =
    checked_reading c.args.text.now c.in-Ok.defs c.from_defs.result
    (record {
      tokens = c.args.tokens.now;
      has = record { text = utf8_valid_len-IsUtf8 c.args.text.now c.utf8.text; are = c.requires };
      spelled = c.in-Ok.ensures.found c.in-Ok.defs refl;
    })
    c.from_defs.ensures

pub returns-in-Err-Expected : goal.returns-in-Err-Expected
returns-in-Err-Expected c =
    rw (c.refused.ensures, c.in-Err-Expected.line-is)
    (unexpected_reading c.args.text.now c.args.tokens.now c.in-Err-Expected.line
    (record { text = utf8_valid_len-IsUtf8 c.args.text.now c.utf8.text; are = c.requires })
    (c.in-Err-Expected.ensures.expected c.in-Err-Expected.line (ap (λ x. Err x) c.in-Err-Expected.field-0-is)))

pub returns-in-Err-LeftOut : goal.returns-in-Err-LeftOut
returns-in-Err-LeftOut c =
    rw (c.refused-in-Err-LeftOut.ensures, c.in-Err-LeftOut.line-is)
    (left_out_reading c.args.text.now c.args.tokens.now c.in-Err-LeftOut.line
    (record { text = utf8_valid_len-IsUtf8 c.args.text.now c.utf8.text; are = c.requires })
    (c.in-Err-LeftOut.ensures.left_out c.in-Err-LeftOut.line (ap (λ x. Err x) c.in-Err-LeftOut.field-0-is)))
