-- What is found stays inside the network, and is no more than the rows.
use Rattle.std.proofs.Common.{◌≡◌, ◌≤◌, ◌+◌, ℕ, Bool, true, false, ◌&&◌, List, [], ◌∷◌, Option, Some, None, length}
use Rattle.std.proofs.Common.{refl, ap, ◌∙◌, arith, if◌then◌else◌}
use Rattle.std.specs.Prelude.{Result, Ok, Err, filter_map, nat_lt}
use Rattle.std.specs.List.{cons_option, list_all, position_or_len}
use Rattle.std.specs.Str.{bytes_eq}
use Rattle.entry_codec.specs.declared.EntryFault.{EntryFault}
use Rattle.entry_codec.specs.Entries.{entry_in}
use Rattle.model.specs.Network.{node_count}
use Rattle.model.specs.Types.{Entry, Net, Node, Start}
use Rattle.record_rows.specs.Words.{◌>>=◌}
use Rattle.record_rows.specs.declared.rows.Ranged.{Ranged}
use Rattle.history_script.specs.Histories.{entry_at, entry_of, found_inside, is_inside, is_start_inside, number_in}
use Rattle.history_script.specs.Histories.{start_at, start_on, ws_of}
use Rattle.history_script.specs.declared.rows.HistoryRow.{HistoryRow}
use Rattle.history_script.specs.declared.rows.HistoryRow.TheVariants as row

-- what passes of an option
abbrev passes : {A : Type 0} → (A → Bool) → Option A → Bool
passes p None = true
passes p (Some a) = p a

one_passing : {B : Type 0} (p : B → Bool) (o : Option B) (bs : List B) → passes p o ≡ true → list_all p bs ≡ true
    → list_all p (cons_option o bs) ≡ true
one_passing p None bs h rest = rest
one_passing p (Some b) bs h rest = ap (λ t. t && list_all p bs) h ∙ rest

all_passing : {A B : Type 0} (p : B → Bool) (f : A → Option B) (xs : List A)
    → ((a : A) → passes p (f a) ≡ true) → list_all p (filter_map f xs) ≡ true
all_passing p f [] each = refl
all_passing p f (x ∷ xs) each = one_passing p (f x) (filter_map f xs) (each x) (all_passing p f xs each)

entry_passes : (net : Net) (r : Result Entry EntryFault) → passes (is_inside net) (found_inside net r) ≡ true
entry_passes net (Err fault) = refl
entry_passes net (Ok e) = go (is_inside net e) refl
  where
    go : (b : Bool) → is_inside net e ≡ b → passes (is_inside net) (if b then Some e else None) ≡ true
    go true h = h
    go false h = refl

row_passes : (net : Net) (r : HistoryRow) → passes (is_inside net) (entry_at net r) ≡ true
unfolding entry_of
row_passes net row.Skipped = refl
row_passes net row.NoForm = refl
row_passes net (row.Entry bytes) = entry_passes net (entry_in bytes)
row_passes net (row.Start name job number) = refl

pub entries_inside : (net : Net) (rows : List HistoryRow) → list_all (is_inside net) (filter_map (entry_at net) rows) ≡ true
entries_inside net rows = all_passing (is_inside net) (entry_at net) rows (row_passes net)

start_passes : (net : Net) (w : Option ℕ) (job number : Ranged ℕ)
    → passes (λ ws. nat_lt ws (node_count net)) w ≡ true
    → passes (is_start_inside net) (start_on w job number) ≡ true
unfolding start_on
start_passes net None job number h = refl
start_passes net (Some w) job number h = go (number_in job) (number_in number)
  where
    go : (j n : Option ℕ)
        → passes (is_start_inside net) (j >>= λ a. n >>= λ b. Some (record { ws = w; job = a; number = b })) ≡ true
    go None n = refl
    go (Some j) None = refl
    go (Some j) (Some n) = h

place_passes : (net : Net) (name : List ℕ) → passes (λ ws. nat_lt ws (node_count net)) (ws_of net name) ≡ true
place_passes net name = go (nat_lt place (length net.nodes)) refl
  where
    place : ℕ
    place = position_or_len (λ (n : Node). bytes_eq n.name name) net.nodes

    go : (b : Bool) → nat_lt place (length net.nodes) ≡ b
        → passes (λ ws. nat_lt ws (node_count net)) (if b then Some place else None) ≡ true
    go true h = h
    go false h = refl

start_row_passes : (net : Net) (r : HistoryRow) → passes (is_start_inside net) (start_at net r) ≡ true
start_row_passes net row.Skipped = refl
start_row_passes net row.NoForm = refl
start_row_passes net (row.Entry bytes) = refl
start_row_passes net (row.Start name job number) =
    start_passes net (ws_of net name) job number (place_passes net name)

pub starts_inside : (net : Net) (rows : List HistoryRow)
    → list_all (is_start_inside net) (filter_map (start_at net) rows) ≡ true
starts_inside net rows = all_passing (is_start_inside net) (start_at net) rows (start_row_passes net)

one_more : {A : Type 0} (o : Option A) (xs : List A) → length (cons_option o xs) ≤ length xs + 1
one_more None xs = omega arith
one_more (Some a) xs = omega arith

-- a row gives an entry or a start, or neither
one_counted : (net : Net) (r : HistoryRow) (es : List Entry) (ss : List Start)
    → length (cons_option (entry_at net r) es) + length (cons_option (start_at net r) ss) ≤ length es + length ss + 1
one_counted net row.Skipped es ss = omega arith
one_counted net row.NoForm es ss = omega arith
one_counted net (row.Entry bytes) es ss = let m = one_more (entry_of net bytes) es in omega (arith, m)
one_counted net (row.Start name job number) es ss =
    let m = one_more (start_on (ws_of net name) job number) ss in omega (arith, m)

pub counted : (net : Net) (rows : List HistoryRow)
    → length (filter_map (entry_at net) rows) + length (filter_map (start_at net) rows) ≤ length rows
counted net [] = omega arith
counted net (r ∷ rows) =
    let h = counted net rows in
    let o = one_counted net r (filter_map (entry_at net) rows) (filter_map (start_at net) rows) in
    let long : length (r ∷ rows) ≡ length rows + 1 = omega arith in
    omega (arith, h, o, long)
