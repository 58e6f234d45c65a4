-- What is read, by the network and the lines behind it.
use Rattle.std.proofs.Common.{◌≡◌, ◌<◌, ◌≤◌, ◌+◌, ◌^◌, ℕ, true, List, [], Option, Some, None, length}
use Rattle.std.proofs.Common.{refl, ap, sym, subst, ◌∙◌, arith, map}
use Rattle.std.specs.Prelude.{Result, Ok, Err}
use Rattle.std.specs.List.{list_all}
use Rattle.std.specs.Option.{option_map_or}
use Rattle.std.proofs.lemmas.List.{length-map}
use Rattle.model.specs.Types.{Entry, Net, Start}
use Rattle.syntax.specs.Splits.{lines_of}
use Rattle.history_script.specs.Fronts.{At, history_place, network_of}
use Rattle.history_script.specs.Histories.{and_then, fault_from, history_in, is_inside, is_start_inside, line_behind}
use Rattle.history_script.specs.Histories.{lines_behind, read_lines, read_of, with_rows}
use Rattle.history_script.specs.Rows.{row_of}
use Rattle.history_script.specs.declared.histories.HistoryText.{HistoryText}
use Rattle.history_script.specs.declared.rows.HistoryRow.{HistoryRow}
use Rattle.history_script.proofs.Inside.{counted, entries_inside, starts_inside}

-- what comes of a network is read
pub read_with : (text : List ℕ) (place : Option ℕ) (lines : List (List ℕ)) (net : Net) (r : Result HistoryText At)
    → lines ≡ lines_of text → place ≡ history_place lines → network_of place lines ≡ Ok net
    → with_rows (line_behind place) (map row_of (lines_behind place lines)) net ≡ r → read_of text ≡ r
unfolding read_of
read_with text place lines net r are is front rest =
    let same : read_lines place lines ≡ read_of text =
    ap (λ p. read_lines p lines) is ∙ ap (λ l. read_lines (history_place l) l) are in
    sym same
    ∙ ap (λ n. and_then n (with_rows (line_behind place) (map row_of (lines_behind place lines)))) front
    ∙ rest

-- and the fault of one is told
pub read_fault : (text : List ℕ) (place : Option ℕ) (lines : List (List ℕ)) (f : At)
    → lines ≡ lines_of text → place ≡ history_place lines → network_of place lines ≡ Err f → read_of text ≡ Err f
unfolding read_of
read_fault text place lines f are is front =
    let same : read_lines place lines ≡ read_of text =
    ap (λ p. read_lines p lines) is ∙ ap (λ l. read_lines (history_place l) l) are in
    sym same
    ∙ ap (λ n. and_then n (with_rows (line_behind place) (map row_of (lines_behind place lines)))) front

-- the history that rows have
the_history : (line : ℕ) (rows : List HistoryRow) (net : Net) (h : HistoryText) → with_rows line rows net ≡ Ok h
    → history_in net rows ≡ h
the_history line rows net h is = go (fault_from net [] rows) refl
  where
    go : (o : Option At) → fault_from net [] rows ≡ o → history_in net rows ≡ h
    go None none =
        let same : ◌≡◌ {A = Result HistoryText At} (Ok (history_in net rows)) (Ok h) =
        sym (ap (λ o. option_map_or (λ (f : At). Err (line + f.0, f.1)) o (Ok (history_in net rows))) none) ∙ is in
        cc
    go (Some f) some =
        absurd (let other : ◌≡◌ {A = Result HistoryText At} (Err (line + f.0, f.1)) (Ok h) =
        sym (ap (λ o. option_map_or (λ (f : At). Err (line + f.0, f.1)) o (Ok (history_in net rows))) some) ∙ is in
        cc)

pub entries_in : (line : ℕ) (rows : List HistoryRow) (net : Net) (h : HistoryText) → with_rows line rows net ≡ Ok h
    → list_all (is_inside h.net) h.entries ≡ true
entries_in line rows net h is =
    subst (λ (x : HistoryText). list_all (is_inside x.net) x.entries ≡ true) (the_history line rows net h is)
    (entries_inside net rows)

pub starts_in : (line : ℕ) (rows : List HistoryRow) (net : Net) (h : HistoryText) → with_rows line rows net ≡ Ok h
    → list_all (is_start_inside h.net) h.starts ≡ true
starts_in line rows net h is =
    subst (λ (x : HistoryText). list_all (is_start_inside x.net) x.starts ≡ true) (the_history line rows net h is)
    (starts_inside net rows)

pub count_in : (line : ℕ) (lines : List (List ℕ)) (net : Net) (h : HistoryText)
    → with_rows line (map row_of lines) net ≡ Ok h → line + length lines < 2 ^ 32
    → length h.entries + length h.starts < 2 ^ 32
count_in line lines net h is few =
    let most : length h.entries + length h.starts ≤ length (map row_of lines) =
    subst (λ (x : HistoryText). length x.entries + length x.starts ≤ length (map row_of lines))
    (the_history line (map row_of lines) net h is) (counted net (map row_of lines)) in
    let long = length-map lines row_of in
    omega (arith, most, long, few)

-- As the calls have it.

pub text_of : (h : HistoryText) (net : Net) (es : List Entry) (ss : List Start) → h.net ≡ net → h.entries ≡ es
    → h.starts ≡ ss → ◌≡◌ {A = HistoryText} (record { net = net; entries = es; starts = ss }) h
text_of h net es ss n e s =
    let one : ◌≡◌ {A = HistoryText} (record { net = net; entries = es; starts = ss }) (record { net = h.net; entries = es; starts = ss }) =
    ap (λ (x : Net). record { net = x; entries = es; starts = ss }) (sym n) in
    let two : ◌≡◌ {A = HistoryText} (record { net = h.net; entries = es; starts = ss }) (record { net = h.net; entries = h.entries; starts = ss }) =
    ap (λ (x : List Entry). record { net = h.net; entries = x; starts = ss }) (sym e) in
    let three : ◌≡◌ {A = HistoryText} (record { net = h.net; entries = h.entries; starts = ss }) h =
    ap (λ (x : List Start). record { net = h.net; entries = h.entries; starts = x }) (sym s) in
    one ∙ two ∙ three

pub behind_is : (first line : ℕ) (seen lines : List (List ℕ)) (net : Net) (r : Result HistoryText At) → first ≡ line
    → seen ≡ lines → with_rows first (map row_of seen) net ≡ r → with_rows line (map row_of lines) net ≡ r
behind_is first line seen lines net r same are is =
    ap (λ l. with_rows line (map row_of l) net) (sym are) ∙ ap (λ n. with_rows n (map row_of seen) net) (sym same) ∙ is

-- what was told
abbrev told_or : {A E : Type 0} → E → Result A E → E
told_or d (Ok a) = d
told_or d (Err e) = e

-- one fault of calls that give different things
pub same_fault : {A B E : Type 0} (x y : E) → ◌≡◌ {A = Result A E} (Err x) (Err y)
    → ◌≡◌ {A = Result B E} (Err x) (Err y)
same_fault x y h = ap (λ e. Err e) (ap (told_or x) h)
