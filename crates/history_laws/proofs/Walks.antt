-- The rows of entries and starts have no fault, and mean them.
use Rattle.std.proofs.Common.{◌≡◌, ◌+◌, ℕ, Bool, false, ◌||◌, List, [], ◌∷◌, ◌++◌, map, Option, Some, None}
use Rattle.std.proofs.Common.{refl, ap, ◌∙◌, append-nil}
use Rattle.std.specs.Prelude.{Ok, Err, filter_map}
use Rattle.std.specs.List.{AllByRecursion, cons_option, list_any}
use Rattle.std.specs.Option.{option_map_or}
use Rattle.std.proofs.lemmas.List.{map-append}
use Rattle.std.proofs.lemmas.List.Elements.{filter_map-append}
use Rattle.std.proofs.lemmas.List.Folds.{list_any-append}
use Rattle.model.specs.Spelling.{entry_bytes}
use Rattle.model.specs.Types.{Entry, Net, Start}
use Rattle.record_rows.specs.declared.rows.Ranged.TheVariants.{Within}
use Rattle.report_text.specs.Names.{name_of}
use Rattle.history_script.specs.Fronts.{At}
use Rattle.history_script.specs.Histories.{entry_at, entry_fault, entry_of, fault_from, fault_of, history_in, is_start}
use Rattle.history_script.specs.Histories.{start_at, start_fault, start_on, with_rows, ws_of}
use Rattle.history_script.specs.Rows.{row_of}
use Rattle.history_script.specs.declared.histories.HistoryText.{HistoryText}
use Rattle.history_script.specs.declared.rows.HistoryRow.{HistoryRow}
use Rattle.history_script.specs.declared.rows.HistoryRow.TheVariants as row
use Rattle.history_script.proofs.Walks.{row_without}
use Rattle.history_laws.proofs.Rows.{entry_words, start_words}

abbrev entry_row : Entry → HistoryRow
entry_row e = row.Entry (entry_bytes e)

abbrev start_row : Net → Start → HistoryRow
start_row net s = row.Start (name_of net s.ws) (Within s.job) (Within s.number)

abbrev pub line_of_start : Net → Start → List ℕ
line_of_start net s = start_words (name_of net s.ws) s.job s.number

-- The line of an entry, in the network `said`, and that of a start, by the names of `net`.
pub record ReadsEntry (said : Net) (e : Entry) : Type 0 where
  pub row_is : row_of (entry_words e) ≡ entry_row e
  pub entry_is : entry_of said (entry_bytes e) ≡ Some e

pub record ReadsStart (net said : Net) (s : Start) : Type 0 where
  pub row_is : row_of (line_of_start net s) ≡ start_row net s
  pub ws_is : ws_of said (name_of net s.ws) ≡ Some s.ws

module _ (net said : Net) where
  abbrev rows : List Entry → List Start → List HistoryRow
  rows entries starts = map entry_row entries ++ map (start_row net) starts

  entries_rows : (entries : List Entry) → AllByRecursion (ReadsEntry said) entries
      → map row_of (map entry_words entries) ≡ map entry_row entries
  entries_rows [] all = refl
  entries_rows (e ∷ entries) all = λ i. all.0.row_is i ∷ entries_rows entries all.1 i

  starts_rows : (starts : List Start) → AllByRecursion (ReadsStart net said) starts
      → map row_of (map (line_of_start net) starts) ≡ map (start_row net) starts
  starts_rows [] all = refl
  starts_rows (s ∷ starts) all = λ i. all.0.row_is i ∷ starts_rows starts all.1 i

  -- No row has a fault.

  entry_faultless : (e : Entry) → ReadsEntry said e → fault_of said false (entry_row e) ≡ None
  unfolding entry_fault
  entry_faultless e h = ap (entry_fault false) h.entry_is

  start_faultless : (started : Bool) (s : Start) → ReadsStart net said s → fault_of said started (start_row net s) ≡ None
  unfolding start_fault
  start_faultless started s h = ap (λ o. start_fault o (Within s.job) (Within s.number)) h.ws_is

  starts_faultless : (above : List HistoryRow) (starts : List Start) → AllByRecursion (ReadsStart net said) starts
      → fault_from said above (map (start_row net) starts) ≡ None
  starts_faultless above [] all = refl
  starts_faultless above (s ∷ starts) all =
      row_without said above (map (start_row net) starts) (start_row net s)
      (start_faultless (list_any is_start above) s all.0)
      ∙ starts_faultless (above ++ start_row net s ∷ []) starts all.1

  faultless : (above : List HistoryRow) (entries : List Entry) (starts : List Start) → list_any is_start above ≡ false
      → AllByRecursion (ReadsEntry said) entries → AllByRecursion (ReadsStart net said) starts
      → fault_from said above (rows entries starts) ≡ None
  faultless above [] starts free all more = starts_faultless above starts more
  faultless above (e ∷ entries) starts free all more =
      let still : list_any is_start (above ++ entry_row e ∷ []) ≡ false =
      list_any-append is_start above (entry_row e ∷ []) ∙ ap (λ b. b || false) free in
      row_without said above (rows entries starts) (entry_row e)
      (ap (λ b. fault_of said b (entry_row e)) free ∙ entry_faultless e all.0)
      ∙ faultless (above ++ entry_row e ∷ []) entries starts still all.1 more

  -- They mean what was written.

  start_means : (s : Start) → ReadsStart net said s → start_at said (start_row net s) ≡ Some s
  unfolding start_on
  start_means s h = ap (λ o. start_on o (Within s.job) (Within s.number)) h.ws_is

  entries_meant : (entries : List Entry) → AllByRecursion (ReadsEntry said) entries
      → filter_map (entry_at said) (map entry_row entries) ≡ entries
  entries_meant [] all = refl
  entries_meant (e ∷ entries) all =
      ap (λ o. cons_option o (filter_map (entry_at said) (map entry_row entries))) all.0.entry_is
      ∙ ap (λ l. e ∷ l) (entries_meant entries all.1)

  starts_meant : (starts : List Start) → AllByRecursion (ReadsStart net said) starts
      → filter_map (start_at said) (map (start_row net) starts) ≡ starts
  starts_meant [] all = refl
  starts_meant (s ∷ starts) all =
      ap (λ o. cons_option o (filter_map (start_at said) (map (start_row net) starts))) (start_means s all.0)
      ∙ ap (λ l. s ∷ l) (starts_meant starts all.1)

  no_entries : (starts : List Start) → filter_map (entry_at said) (map (start_row net) starts) ≡ []
  no_entries [] = refl
  no_entries (s ∷ starts) = no_entries starts

  no_starts : (entries : List Entry) → filter_map (start_at said) (map entry_row entries) ≡ []
  no_starts [] = refl
  no_starts (e ∷ entries) = no_starts entries

  abbrev meant : List Entry → List Start → HistoryText
  meant entries starts = record { net = said; entries = entries; starts = starts }

  history_is : (entries : List Entry) (starts : List Start) → AllByRecursion (ReadsEntry said) entries
      → AllByRecursion (ReadsStart net said) starts → history_in said (rows entries starts) ≡ meant entries starts
  history_is entries starts all more =
      let es : filter_map (entry_at said) (rows entries starts) ≡ entries =
      filter_map-append (entry_at said) (map entry_row entries) (map (start_row net) starts)
      ∙ ap (λ l. filter_map (entry_at said) (map entry_row entries) ++ l) (no_entries starts)
      ∙ append-nil (filter_map (entry_at said) (map entry_row entries)) ∙ entries_meant entries all in
      let ss : filter_map (start_at said) (rows entries starts) ≡ starts =
      filter_map-append (start_at said) (map entry_row entries) (map (start_row net) starts)
      ∙ ap (λ l. l ++ filter_map (start_at said) (map (start_row net) starts)) (no_starts entries)
      ∙ starts_meant starts more in
      λ i. record { net = said; entries = es i; starts = ss i }

  pub lines_mean : (line : ℕ) (entries : List Entry) (starts : List Start) → AllByRecursion (ReadsEntry said) entries
      → AllByRecursion (ReadsStart net said) starts
      → with_rows line (map row_of (map entry_words entries ++ map (line_of_start net) starts)) said
      ≡ Ok (meant entries starts)
  lines_mean line entries starts all more =
      let lines : map row_of (map entry_words entries ++ map (line_of_start net) starts) ≡ rows entries starts =
      map-append row_of (map entry_words entries) (map (line_of_start net) starts)
      ∙ (λ i. entries_rows entries all i ++ starts_rows starts more i) in
      ap (λ l. with_rows line l said) lines
      ∙ ap (λ (o : Option At). option_map_or (λ (f : At). Err (line + f.0, f.1)) o (Ok (history_in said (rows entries starts))))
      (faultless [] entries starts refl all more)
      ∙ ap Ok (history_is entries starts all more)
