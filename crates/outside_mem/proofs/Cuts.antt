-- Pieces that stand one behind the other: one more at the end, and the one with a number.
use Rattle.std.proofs.Common.{◌≡◌, ◌+◌, ◌-◌, ◌≤◌, ◌<◌, Bool, ℕ, zero, suc, List, [], ◌∷◌, ◌++◌, length, take, drop, Some, refl, sym, ◌∙◌, ap, subst, arith, length-append, slice_get, slice_index_or, get_or, flat_map, option_map, map}
use Rattle.std.proofs.lemmas.List.{take_all, drop_at, take-append-le, drop-append-le, length-drop, drop_all, drop-drop, take-append-drop}
use Rattle.std.proofs.lemmas.List.Concat.{flat_map-cons}
use Rattle.outside_mem.specs.Rooms.{with_row, cut, AreCut, start_of}
use Rattle.outside_mem.specs.declared.rooms.Row.{Row}
use Rattle.base_types.specs.declared.Peer.{Peer}
use Rattle.outside_mem.specs.declared.begun.BegunBy.{BegunBy}
use Rattle.outside_mem.specs.declared.begun.PeerAt.{PeerAt}
use Rattle.outside_mem.specs.Begun.{with_begun, kept_peer, host_bytes}
use Rattle.std.proofs.lemmas.List.{length-map}

pub within : {T X : Type 0} (start : ℕ) (rows : List (Row T)) (bytes : List X) → AreCut start rows bytes → start ≤ length bytes
within start [] bytes are = omega (arith, are)
within start (row ∷ rows) bytes are = omega (arith, are.0, within row.end rows bytes are.1)

pub cut_size : {T X : Type 0} (start : ℕ) (rows : List (Row T)) (bytes : List X) → length (cut start rows bytes) ≡ length rows
cut_size start [] bytes = refl
cut_size start (row ∷ rows) bytes = ap (λ (n : ℕ). suc n) (cut_size row.end rows bytes)

pub cut_more : {T X : Type 0} (start : ℕ) (rows : List (Row T)) (bytes piece : List X) (tag : T) (end : ℕ) → AreCut start rows bytes → end ≡ length bytes + length piece
    → cut start (rows ++ record { tag = tag; end = end } ∷ []) (bytes ++ piece) ≡ cut start rows bytes ++ (tag, piece) ∷ []
cut_more {T} {X} start [] bytes piece tag end are is =
    let rest : drop start (bytes ++ piece) ≡ piece = drop_at bytes piece start (sym are) in
    ap (λ (p : List X). (tag, p) ∷ []) (ap (λ (l : List X). take (end - start) l) rest ∙ take_all (end - start) piece (omega (arith, are, is)))
cut_more {T} {X} start (row ∷ rows) bytes piece tag end are is =
    let inside = within row.end rows bytes are.1 in
    let front : take (row.end - start) (drop start (bytes ++ piece)) ≡ take (row.end - start) (drop start bytes) =
    ap (λ (l : List X). take (row.end - start) l) (drop-append-le start bytes piece (omega (arith, are.0, inside))) ∙ take-append-le (row.end - start) (drop start bytes) piece (omega (arith, are.0, inside, length-drop start bytes)) in
    ap (λ (p : List X). (row.tag, p) ∷ cut row.end (rows ++ record { tag = tag; end = end } ∷ []) (bytes ++ piece)) front
    ∙ ap (λ (l : List (T × List X)). (row.tag, take (row.end - start) (drop start bytes)) ∷ l) (cut_more row.end rows bytes piece tag end are.1 is)

pub are_more : {T X : Type 0} (start : ℕ) (rows : List (Row T)) (bytes piece : List X) (tag : T) (end : ℕ) → AreCut start rows bytes → end ≡ length bytes + length piece
    → AreCut start (rows ++ record { tag = tag; end = end } ∷ []) (bytes ++ piece)
are_more start [] bytes piece tag end are is = (omega (arith, are, is), is ∙ sym (length-append bytes piece))
are_more start (row ∷ rows) bytes piece tag end are is = (are.0, are_more row.end rows bytes piece tag end are.1 is)

pub start_behind : {T : Type 0} (start : ℕ) (rows : List (Row T)) (i : ℕ) (row : Row T) → slice_get rows i ≡ Some row → start_of start rows (suc i) ≡ row.end
start_behind start [] i row is = absurd (cc is)
start_behind start (r ∷ rows) zero row is = let same : r ≡ row = cc is in ap (λ (x : Row _). x.end) same
start_behind start (r ∷ rows) (suc i) row is = start_behind r.end rows i row is

pub cut_row : {T X : Type 0} (start : ℕ) (rows : List (Row T)) (bytes : List X) (i : ℕ) (row : Row T) → slice_get rows i ≡ Some row
    → slice_get (cut start rows bytes) i ≡ Some (row.tag, take (row.end - start_of start rows i) (drop (start_of start rows i) bytes))
cut_row start [] bytes i row is = absurd (cc is)
cut_row start (r ∷ rows) bytes zero row is = let same : r ≡ row = cc is in ap (λ (x : Row _). Some (x.tag, take (x.end - start) (drop start bytes))) same
cut_row start (r ∷ rows) bytes (suc i) row is = cut_row r.end rows bytes i row is

pub row_within : {T X : Type 0} (start : ℕ) (rows : List (Row T)) (bytes : List X) (i : ℕ) (row : Row T) → AreCut start rows bytes → slice_get rows i ≡ Some row
    → (start_of start rows i ≤ row.end) × (row.end ≤ length bytes)
row_within start [] bytes i row are is = absurd (cc is)
row_within start (r ∷ rows) bytes zero row are is =
    let same : r ≡ row = cc is in
    subst (λ (x : Row _). (start ≤ x.end) × (x.end ≤ length bytes)) same (are.0, within r.end rows bytes are.1)
row_within start (r ∷ rows) bytes (suc i) row are is = row_within r.end rows bytes i row are.1 is

module _ {T X : Type 0} (rows more : List (Row T)) (bytes longer piece : List X) (tag : T) (end : ℕ) (are : AreCut 0 rows bytes)
    (is : end ≡ length bytes + length piece) (row_more : more ≡ rows ++ record { tag = tag; end = end } ∷ []) (piece_more : longer ≡ bytes ++ piece) where
  pub are_added : AreCut 0 more longer
  are_added = rw (row_more, piece_more) (are_more 0 rows bytes piece tag end are is)

  pub cut_added : cut 0 more longer ≡ cut 0 rows bytes ++ (tag, piece) ∷ []
  cut_added = rw (row_more, piece_more) (cut_more 0 rows bytes piece tag end are is)

-- what is kept, with one piece more
pub stored_more : {T : Type 0} (rows more : List (Row T)) (bytes longer piece : List ℕ) (tag : T) (end : ℕ) → AreCut 0 rows bytes
    → end ≡ length bytes + length piece → more ≡ rows ++ record { tag = tag; end = end } ∷ [] → longer ≡ bytes ++ piece → (room : ℕ) (whole : Bool)
    → (record { rows = cut 0 more longer; used = length longer; room = room; whole = whole })
    ≡ (with_row tag piece (record { rows = cut 0 rows bytes; used = length bytes; room = room; whole = whole }))
stored_more rows more bytes longer piece tag end are is row_more piece_more room whole =
    rw (cut_added rows more bytes longer piece tag end are is row_more piece_more, piece_more, length-append bytes piece) refl

-- and so for the beginnings of links
pub begun_stored : (calls more : List (Row BegunBy)) (rows longer : List (PeerAt × List ℕ)) (peers : List Peer) (call : BegunBy) (end : ℕ) → AreCut 0 calls rows
    → end ≡ length rows + length (map kept_peer peers) → more ≡ calls ++ record { tag = call; end = end } ∷ [] → longer ≡ rows ++ map kept_peer peers
    → (used now : ℕ) → now ≡ used + host_bytes peers → (room : ℕ) (whole : Bool)
    → (record { calls = cut 0 more longer; peers = length longer; used = now; room = room; whole = whole })
    ≡ (with_begun call peers (record { calls = cut 0 calls rows; peers = length rows; used = used; room = room; whole = whole }))
begun_stored calls more rows longer peers call end are is row_more piece_more used now used_is room whole =
    rw (cut_added calls more rows longer (map kept_peer peers) call end are is row_more piece_more, piece_more, length-append rows (map kept_peer peers), length-map peers kept_peer, used_is) refl

-- behind the first, each piece begins where the one before it ends
pub start_next : {T : Type 0} (rows : List (Row T)) (i : ℕ) (d : Row T) → 0 < i → i < length rows → (slice_index_or rows (i - 1) d).end ≡ start_of 0 rows i
start_next {T} rows i d low high = go rows (i - 1) 0 (omega (arith, low, high)) ∙ ap (λ (n : ℕ). start_of 0 rows n) (let e : suc (i - 1) ≡ i = omega (arith, low) in e)
  where
    go : (rows : List (Row T)) (k start : ℕ) → k < length rows → (slice_index_or rows k d).end ≡ start_of start rows (suc k)
    go [] k start le = absurd (omega (arith, le))
    go (row ∷ rows) zero start le = refl
    go (row ∷ rows) (suc k) start le = go rows k row.end (omega (arith, le))

-- the piece with a number, between the places where it begins and ends
module _ {T : Type 0} (rows : List (Row T)) (bytes : List ℕ) (i start : ℕ) (row : Row T) (are : AreCut 0 rows bytes)
    (low : i < length rows) (is : row ≡ get_or rows i row) (at_start : start ≡ start_of 0 rows i) where
  here : slice_get rows i ≡ Some row
  here = go rows i low is
    where
      go : (rows : List (Row T)) (i : ℕ) → i < length rows → row ≡ get_or rows i row → slice_get rows i ≡ Some row
      go [] i le same = absurd (omega (arith, le))
      go (r ∷ rows) zero le same = ap (λ (x : Row T). Some x) (sym same)
      go (r ∷ rows) (suc i) le same = go rows i (omega (arith, le)) same

  pub in_order : start ≤ row.end
  in_order = omega (arith, at_start, (row_within 0 rows bytes i row are here).0)

  pub in_bytes : row.end ≤ length bytes
  in_bytes = (row_within 0 rows bytes i row are here).1

  pub one_piece : slice_get (cut 0 rows bytes) i ≡ Some (row.tag, take (row.end - start) (drop start bytes))
  one_piece = rw at_start (cut_row 0 rows bytes i row here)

-- the pieces together are the whole
pub whole_again : {T X : Type 0} (start : ℕ) (rows : List (Row T)) (whole : List X) → AreCut start rows whole → drop start whole ≡ flat_map (λ (row : T × List X). row.1) (cut start rows whole)
whole_again {T} {X} start [] whole are = drop_all start whole (omega (arith, are))
whole_again {T} {X} start (row ∷ rows) whole are =
    let behind : drop (row.end - start) (drop start whole) ≡ drop row.end whole =
    drop-drop (row.end - start) start whole ∙ ap (λ (n : ℕ). drop n whole) (let e : start + (row.end - start) ≡ row.end = omega (arith, are.0) in e) in
    sym (take-append-drop (row.end - start) (drop start whole))
    ∙ ap (λ (l : List X). take (row.end - start) (drop start whole) ++ l) (behind ∙ whole_again row.end rows whole are.1)
    ∙ sym (flat_map-cons (λ (r : T × List X). r.1) (row.tag, take (row.end - start) (drop start whole)) (cut row.end rows whole))

-- the tag of the piece with a number
pub one_tag : {T X : Type 0} (rows : List (Row T)) (whole : List X) (i : ℕ) (row : Row T) → i < length rows → row ≡ get_or rows i row
    → option_map (λ (r : T × List X). r.0) (slice_get (cut 0 rows whole) i) ≡ Some row.tag
one_tag {T} {X} rows whole i row low is = go 0 rows i low is
  where
    go : (start : ℕ) (rows : List (Row T)) (i : ℕ) → i < length rows → row ≡ get_or rows i row → option_map (λ (r : T × List X). r.0) (slice_get (cut start rows whole) i) ≡ Some row.tag
    go start [] i le same = absurd (omega (arith, le))
    go start (r ∷ rows) zero le same = ap (λ (x : Row T). Some x.tag) (sym same)
    go start (r ∷ rows) (suc i) le same = go r.end rows i (omega (arith, le)) same
