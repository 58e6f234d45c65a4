-- How long the bytes of a row are.
use Rattle.std.proofs.Common.{◌≡◌, ◌≤◌, ◌+◌, ℕ, Bool, true, false, List, [], ◌∷◌, Option, Some, None, length}
use Rattle.std.proofs.Common.{refl, arith, eqb, option_map, if◌then◌else◌}
use Rattle.std.specs.Prelude.{option_and_then, unwrap_or, bytes_eq, codes}
use Rattle.std.specs.List.{position_or_len}
use Rattle.std.proofs.lemmas.List.{length-drop}
use Rattle.syntax.specs.Names.{name_of}
use Rattle.syntax.specs.Splits.{first_word, after_word, words_of}
use Rattle.record_rows.specs.Rows.{is_skipped}
use Rattle.record_rows.specs.Words.{◌>>=◌, sized}
use Rattle.record_rows.specs.declared.rows.Ranged.{Ranged}
use Rattle.history_script.specs.Digits.{byte_of, bytes_of, some_bytes}
use Rattle.history_script.specs.Rows.{entry_row, form_of, row_of, start_row}
use Rattle.history_script.specs.Taken.{row_size}
use Rattle.history_script.specs.declared.rows.HistoryRow.TheVariants as row

-- no more bytes than digits
unfoldable size_in : Option (List ℕ) → ℕ
size_in o = row_size (unwrap_or (option_map row.Entry o) row.NoForm)

fewer : (word : List ℕ) → size_in (bytes_of word) ≤ length word
unfolding bytes_of size_in
fewer [] = omega arith
fewer (a ∷ []) = omega arith
fewer (a ∷ b ∷ rest) = go (byte_of a b) (bytes_of rest) (fewer rest)
  where
    go : (byte : Option ℕ) (bytes : Option (List ℕ)) → row_size (unwrap_or (option_map row.Entry bytes) row.NoForm) ≤ length rest
        → row_size (unwrap_or (option_map row.Entry (option_and_then (λ x. option_map (λ xs. x ∷ xs) bytes) byte)) row.NoForm)
        ≤ length (a ∷ b ∷ rest)
    go None bytes h = omega arith
    go (Some byte) None h = omega arith
    go (Some byte) (Some bytes) h = omega (arith, h)

entry_size : (word : List ℕ) → row_size (unwrap_or (entry_row word) row.NoForm) ≤ length word
unfolding some_bytes size_in
entry_size word = go (eqb (length word) 0)
  where
    go : (b : Bool) → row_size (unwrap_or (option_map row.Entry (if b then None else bytes_of word)) row.NoForm) ≤ length word
    go true = omega arith
    go false = fewer word

on_start : (w : Option (List ℕ)) (j n : Option (Ranged ℕ))
    → row_size (unwrap_or (w >>= λ ws. j >>= λ job. n >>= λ number. Some (row.Start ws job number)) row.NoForm) ≡ 0
on_start None j n = refl
on_start (Some w) None n = refl
on_start (Some w) (Some j) None = refl
on_start (Some w) (Some j) (Some n) = refl

start_size : (words : List (List ℕ)) → row_size (unwrap_or (start_row words) row.NoForm) ≡ 0
unfolding start_row
start_size [] = refl
start_size (a ∷ []) = refl
start_size (a ∷ b ∷ []) = refl
start_size (a ∷ b ∷ c ∷ []) = on_start (name_of a) (sized 32 b) (sized 32 c)
start_size (a ∷ b ∷ c ∷ d ∷ words) = refl

form_size : (word rest : List ℕ) → row_size (unwrap_or (form_of word rest) row.NoForm) ≤ length rest
form_size word rest = go (bytes_eq word (codes "entry")) (bytes_eq word (codes "start"))
  where
    go : (e s : Bool)
        → row_size (unwrap_or (if e then entry_row rest else (if s then start_row (words_of rest) else None)) row.NoForm)
        ≤ length rest
    go true s = entry_size rest
    go false true = let h = start_size (words_of rest) in omega (arith, h)
    go false false = omega arith

pub row_fits : (line : List ℕ) → row_size (row_of line) ≤ length line
unfolding row_of
row_fits line = go (is_skipped line)
  where
    go : (b : Bool)
        → row_size (if b then row.Skipped else unwrap_or (form_of (first_word line) (after_word line)) row.NoForm) ≤ length line
    go true = omega arith
    go false =
        let h = form_size (first_word line) (after_word line) in
        let d = length-drop (position_or_len (λ b. eqb b 32) line + 1) line in
        omega (arith, h, d)
