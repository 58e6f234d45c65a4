-- Rows taken one after the other.
use Rattle.std.specs.Prelude.{◌≡◌, ◌+◌, ◌++◌, ◌||◌, ℕ, List, [], ◌∷◌, length}
use Rattle.std.specs.Option.{option_to_list}
use Rattle.model.specs.Types.{Net}
use Rattle.history_script.specs.Histories.{entry_at, is_start, start_at}
use Rattle.history_script.specs.declared.found.Found.{Found}
use Rattle.history_script.specs.declared.rows.HistoryRow.{HistoryRow}
use Rattle.history_script.specs.declared.rows.HistoryRow.TheVariants as row

-- a row more, which has no fault
pub record IsTaken (net : Net) (old : Found) (r : HistoryRow) (new : Found) : Type 0 where
  pub entries_ : new.entries ≡ old.entries ++ option_to_list (entry_at net r)
  pub starts_ : new.starts ≡ old.starts ++ option_to_list (start_at net r)
  pub started_ : new.started ≡ (old.started || is_start r)

-- how many bytes lines have with their line feeds
abbrev pub lines_size : List (List ℕ) → ℕ
lines_size [] = 0
lines_size (line ∷ lines) = length line + 1 + lines_size lines

-- how many bytes a row has for an entry
abbrev pub row_size : HistoryRow → ℕ
row_size (row.Entry bytes) = length bytes
row_size r = 0
