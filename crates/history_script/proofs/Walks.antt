-- The walk from line to line.
use Rattle.std.proofs.Common.{◌≡◌, ◌<◌, ◌≤◌, ◌+◌, ◌^◌, ℕ, suc, zero, false, ◌||◌, List, [], ◌∷◌, ◌++◌, Option, Some}
use Rattle.std.proofs.Common.{None, length}
use Rattle.std.proofs.Common.{refl, ap, sym, subst, ◌∙◌, arith, drop, get_or, map, take}
use Rattle.std.specs.Prelude.{Ok, Err, filter_map}
use Rattle.std.specs.List.{cons_option, list_any}
use Rattle.std.specs.Option.{option_to_list}
use Rattle.std.proofs.lemmas.List.{length-map, length-take-le, map-append, take_more}
use Rattle.std.proofs.lemmas.List.Elements.{filter_map-append}
use Rattle.std.proofs.lemmas.List.Folds.{list_any-append}
use Rattle.std.proofs.Math.Seq.{drop-cons, drop-length, take-length}
use Rattle.lemmas.proofs.Booleans.{or_false}
use Rattle.lemmas.proofs.Lists.{one_filtered}
use Rattle.model.specs.Types.{Net}
use Rattle.history_script.specs.Histories.{entry_at, fault_from, fault_of, history_in, is_start, start_at, with_rows}
use Rattle.history_script.specs.Rows.{row_of}
use Rattle.history_script.specs.Taken.{IsTaken, lines_size}
use Rattle.history_script.specs.declared.found.Found.{Found}
use Rattle.history_script.specs.declared.histories.HistoryKind.{HistoryKind}
use Rattle.history_script.specs.declared.rows.HistoryRow.{HistoryRow}

-- a row without a fault, and one with a fault
pub row_without : (net : Net) (above below : List HistoryRow) (r : HistoryRow)
    → fault_of net (list_any is_start above) r ≡ None
    → fault_from net above (r ∷ below) ≡ fault_from net (above ++ r ∷ []) below
row_without net above below r is = rw is refl

pub row_with : (net : Net) (above below : List HistoryRow) (r : HistoryRow) (k : HistoryKind)
    → fault_of net (list_any is_start above) r ≡ Some k
    → fault_from net above (r ∷ below) ≡ Some (length above, k)
row_with net above below r k is = rw is refl

-- The rows of the lines that were read, and of those that are left.

pub lines_taken : {A : Type 0} (see : A → List ℕ) (texts : List A) (i : ℕ) (d : A) → i < length texts
    → map see (take (i + 1) texts) ≡ map see (take i texts) ++ see (get_or texts i d) ∷ []
lines_taken see texts i d here =
    ap (map see) (take_more texts i d here) ∙ map-append see (take i texts) (get_or texts i d ∷ [])

pub lines_left : {A : Type 0} (see : A → List ℕ) (texts : List A) (i : ℕ) (d : A) → i < length texts
    → map see (drop i texts) ≡ see (get_or texts i d) ∷ map see (drop (i + 1) texts)
lines_left see texts i d here =
    let next : suc i ≡ i + 1 = omega arith in
    ap (map see) (drop-cons texts i d here ∙ ap (λ n. get_or texts i d ∷ drop n texts) next)

-- what was read up to a line, and what is left
pub record IsReadTo (net : Net) (above below : List (List ℕ)) (all : List (List ℕ)) (found : Found) : Type 0 where
  pub left : fault_from net [] (map row_of all) ≡ fault_from net (map row_of above) (map row_of below)
  pub started_ : found.started ≡ list_any is_start (map row_of above)
  pub entries_ : found.entries ≡ filter_map (entry_at net) (map row_of above)
  pub starts_ : found.starts ≡ filter_map (start_at net) (map row_of above)

pub nothing_read : (net : Net) (all : List (List ℕ)) (found : Found) → found.started ≡ false → found.entries ≡ []
    → found.starts ≡ [] → IsReadTo net [] all all found
nothing_read net all found none no_entry no_start =
    record { left = refl; started_ = none; entries_ = no_entry; starts_ = no_start }

alone : {B : Type 0} (o : Option B) → cons_option o [] ≡ option_to_list o
alone None = refl
alone (Some b) = refl

-- one line more, which has no fault
pub one_more : (net : Net) (above below : List (List ℕ)) (line : List ℕ) (all : List (List ℕ)) (old new : Found)
    → IsReadTo net above (line ∷ below) all old → fault_of net old.started (row_of line) ≡ None
    → IsTaken net old (row_of line) new → IsReadTo net (above ++ line ∷ []) below all new
one_more net above below line all old new read none taken =
    let rows : map row_of (above ++ line ∷ []) ≡ map row_of above ++ row_of line ∷ [] = map-append row_of above (line ∷ []) in
    let first : fault_of net (list_any is_start (map row_of above)) (row_of line) ≡ None =
    ap (λ b. fault_of net b (row_of line)) (sym read.started_) ∙ none in
    record {
      left =
          read.left ∙ row_without net (map row_of above) (map row_of below) (row_of line) first
          ∙ ap (λ l. fault_from net l (map row_of below)) (sym rows);
      started_ =
          taken.started_ ∙ ap (λ b. b || is_start (row_of line)) read.started_
          ∙ ap (λ b. list_any is_start (map row_of above) || b) (sym (or_false (is_start (row_of line))))
          ∙ sym (list_any-append is_start (map row_of above) (row_of line ∷ [])) ∙ ap (list_any is_start) (sym rows);
      entries_ =
          taken.entries_ ∙ ap (λ l. l ++ option_to_list (entry_at net (row_of line))) read.entries_
          ∙ ap (λ l. filter_map (entry_at net) (map row_of above) ++ l) (sym (one_filtered (entry_at net) (row_of line)))
          ∙ sym (filter_map-append (entry_at net) (map row_of above) (row_of line ∷ []))
          ∙ ap (filter_map (entry_at net)) (sym rows);
      starts_ =
          taken.starts_ ∙ ap (λ l. l ++ option_to_list (start_at net (row_of line))) read.starts_
          ∙ ap (λ l. filter_map (start_at net) (map row_of above) ++ l) (sym (one_filtered (start_at net) (row_of line)))
          ∙ sym (filter_map-append (start_at net) (map row_of above) (row_of line ∷ []))
          ∙ ap (filter_map (start_at net)) (sym rows);
    }

-- a line with a fault, and the end without one
pub ends_there : (net : Net) (above below : List (List ℕ)) (line : List ℕ) (all : List (List ℕ)) (old : Found)
    (k : HistoryKind) (first : ℕ) → IsReadTo net above (line ∷ below) all old
    → fault_of net old.started (row_of line) ≡ Some k
    → with_rows first (map row_of all) net ≡ Err (first + length above, k)
ends_there net above below line all old k first read fault =
    let here : fault_of net (list_any is_start (map row_of above)) (row_of line) ≡ Some k =
    ap (λ b. fault_of net b (row_of line)) (sym read.started_) ∙ fault in
    let found : fault_from net [] (map row_of all) ≡ Some (length above, k) =
    read.left ∙ row_with net (map row_of above) (map row_of below) (row_of line) k here
    ∙ ap (λ n. Some (n, k)) (length-map above row_of) in
    rw found refl

pub ends_well : (net : Net) (all : List (List ℕ)) (found : Found) (first : ℕ) → IsReadTo net all [] all found
    → with_rows first (map row_of all) net ≡ Ok (record { net = net; entries = found.entries; starts = found.starts })
ends_well net all found first read =
    let none : fault_from net [] (map row_of all) ≡ None = read.left in
    let text : with_rows first (map row_of all) net ≡ Ok (history_in net (map row_of all)) = rw none refl in
    text
    ∙ ap (λ l. Ok (record { net = net; entries = l; starts = filter_map (start_at net) (map row_of all) }))
    (sym read.entries_)
    ∙ ap (λ l. Ok (record { net = net; entries = found.entries; starts = l })) (sym read.starts_)

-- As the loop has it.

pub step_on : {A : Type 0} (see : A → List ℕ) (net : Net) (texts : List A) (i : ℕ) (d : A) (old new : Found)
    → i < length texts
    → IsReadTo net (map see (take i texts)) (map see (drop i texts)) (map see texts) old
    → fault_of net old.started (row_of (see (get_or texts i d))) ≡ None
    → IsTaken net old (row_of (see (get_or texts i d))) new
    → IsReadTo net (map see (take (i + 1) texts)) (map see (drop (i + 1) texts)) (map see texts) new
step_on see net texts i d old new here read none taken =
    let left = lines_left see texts i d here in
    let more = lines_taken see texts i d here in
    subst (λ l. IsReadTo net l (map see (drop (i + 1) texts)) (map see texts) new) (sym more)
    (one_more net (map see (take i texts)) (map see (drop (i + 1) texts)) (see (get_or texts i d)) (map see texts) old new
    (subst (λ l. IsReadTo net (map see (take i texts)) l (map see texts) old) left read) none taken)

pub stop_at : {A : Type 0} (see : A → List ℕ) (net : Net) (texts : List A) (i : ℕ) (d : A) (old : Found)
    (k : HistoryKind) (first : ℕ) → i < length texts
    → IsReadTo net (map see (take i texts)) (map see (drop i texts)) (map see texts) old
    → fault_of net old.started (row_of (see (get_or texts i d))) ≡ Some k
    → with_rows first (map row_of (map see texts)) net ≡ Err (first + i, k)
stop_at see net texts i d old k first here read fault =
    let left = lines_left see texts i d here in
    let few : length (map see (take i texts)) ≡ i =
    length-map (take i texts) see ∙ length-take-le i texts (omega (arith, here)) in
    ends_there net (map see (take i texts)) (map see (drop (i + 1) texts)) (see (get_or texts i d)) (map see texts) old k
    first (subst (λ l. IsReadTo net (map see (take i texts)) l (map see texts) old) left read) fault
    ∙ ap (λ n. Err (first + n, k)) few

pub end_at : {A : Type 0} (see : A → List ℕ) (net : Net) (texts : List A) (i : ℕ) (found : Found) (first : ℕ)
    → i ≡ length texts
    → IsReadTo net (map see (take i texts)) (map see (drop i texts)) (map see texts) found
    → with_rows first (map row_of (map see texts)) net
    ≡ Ok (record { net = net; entries = found.entries; starts = found.starts })
end_at see net texts i found first at_end read =
    let all : take i texts ≡ texts = ap (λ n. take n texts) at_end ∙ take-length texts in
    let none : drop i texts ≡ [] = ap (λ n. drop n texts) at_end ∙ drop-length texts in
    ends_well net (map see texts) found first
    (subst (λ l. IsReadTo net (map see l) [] (map see texts) found) all
    (subst (λ l. IsReadTo net (map see (take i texts)) (map see l) (map see texts) found) none read))

less_left : {A : Type 0} (see : A → List ℕ) (i : ℕ) (texts : List A)
    → lines_size (map see (drop (suc i) texts)) ≤ lines_size (map see (drop i texts))
less_left see zero [] = omega arith
less_left see zero (t ∷ texts) = omega arith
less_left see (suc i) [] = omega arith
less_left see (suc i) (t ∷ texts) = less_left see i texts

pub size_on : {A : Type 0} (see : A → List ℕ) (texts : List A) (i : ℕ)
    → lines_size (map see (drop i texts)) < 2 ^ 32 → lines_size (map see (drop (i + 1) texts)) < 2 ^ 32
size_on see texts i short =
    let next : suc i ≡ i + 1 = omega arith in
    let less = subst (λ n. lines_size (map see (drop n texts)) ≤ lines_size (map see (drop i texts))) next
    (less_left see i texts) in
    omega (arith, less, short)

pub line_short : {A : Type 0} (see : A → List ℕ) (texts : List A) (i : ℕ) (d : A) → i < length texts
    → lines_size (map see (drop i texts)) < 2 ^ 32 → length (see (get_or texts i d)) < 2 ^ 32
line_short see texts i d here short =
    let e : lines_size (map see (drop i texts))
    ≡ length (see (get_or texts i d)) + 1 + lines_size (map see (drop (i + 1) texts)) =
    ap lines_size (lines_left see texts i d here) in
    omega (arith, e, short)
