-- Histories: what bytes are read to, and which text is that of a sound one.
use Rattle.std.specs.Prelude.{◌≡◌, ℕ, List, Option, Result, Ok, Err}
use Rattle.std.specs.Io.KnownBytes.{Appends}
use Rattle.definition_texts.specs.Refusals.{IsText, bad_byte_line}
use Rattle.history_script.specs.Fronts.{At}
use Rattle.history_script.specs.Histories.{read_of}
use Rattle.history_script.specs.declared.histories.HistoryKind.TheVariants.{OfRecord}
use Rattle.history_script.specs.declared.histories.HistoryText.{HistoryText}
use Rattle.model.specs.Sound.{IsSound}
use Rattle.record_faults.specs.declared.kinds.ScriptKind.TheVariants.{BadLine}

-- What bytes are read to. Those that are no UTF-8 are refused at the line of the first byte that is no part of it, and
-- that comes before every other fault.
pub data AreHistory (bytes : List ℕ) : Result HistoryText At → Type 0 where
  no_text : (IsText bytes → ⊥) → AreHistory bytes (Err (bad_byte_line bytes, OfRecord BadLine))
  text : {reading : Result HistoryText At} → IsText bytes → read_of bytes ≡ reading → AreHistory bytes reading

-- The text is read to a history that is sound.
pub record IsSoundText (text : List ℕ) : Type 0 where
  pub told : HistoryText
  pub reads : AreHistory text (Ok told)
  pub sound : IsSound told.net told.entries told.starts

-- such a text was written
pub record WritesHistory (written written' : Option (List ℕ)) : Type 0 where
  pub text : List ℕ
  pub wrote : Appends written written' text
  pub is_sound : IsSoundText text
