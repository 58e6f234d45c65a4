-- The table of lines behind `$HISTORY`: which row a line is.
use Rattle.std.specs.Prelude.{ℕ, List, [], ◌∷◌, Option, Some, None, codes, option_map, unwrap_or, if◌then◌else◌}
use Rattle.syntax.specs.Names.{name_of}
use Rattle.syntax.specs.Splits.{first_word, after_word, words_of}
use Rattle.record_rows.specs.Rows.{is_skipped}
use Rattle.record_rows.specs.Words.{◌>>=◌, ◌is◌, sized}
use Rattle.history_script.specs.Digits.{some_bytes}
use Rattle.history_script.specs.declared.rows.HistoryRow.{HistoryRow}
use Rattle.history_script.specs.declared.rows.HistoryRow.TheVariants as row

-- `entry HEX`
abbrev pub entry_row : List ℕ → Option HistoryRow
entry_row rest = option_map row.Entry (some_bytes rest)

-- `start W JOB NUMBER`
unfoldable pub start_row : List (List ℕ) → Option HistoryRow
start_row (ws ∷ job ∷ number ∷ []) =
    name_of ws >>= λ w. sized 32 job >>= λ j. sized 32 number >>= λ n. Some (row.Start w j n)
start_row words = None

abbrev pub form_of : List ℕ → List ℕ → Option HistoryRow
form_of word rest =
    if word is codes "entry" then entry_row rest else
    if word is codes "start" then start_row (words_of rest) else None

unfoldable pub row_of : List ℕ → HistoryRow
row_of line =
    if is_skipped line then row.Skipped else unwrap_or (form_of (first_word line) (after_word line)) row.NoForm
