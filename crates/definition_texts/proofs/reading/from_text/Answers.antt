use Rattle.std.proofs.Common.{refl}
use Rattle.std.proofs.lemmas.Str.{utf8_valid_len-IsUtf8}
use Rattle.definition_texts.proofs.Readings.{lexed_reading}
use Rattle.definition_texts.proofs.reading.from_text.Goals as goal

pub returns-in-Err : goal.returns-in-Err
returns-in-Err c =
    rw c.lexed.ensures
    (lexed_reading c.args.text.now c.in-Err.fault _ (utf8_valid_len-IsUtf8 c.args.text.now c.utf8.text) refl
    c.in-Err.ensures.answer)
