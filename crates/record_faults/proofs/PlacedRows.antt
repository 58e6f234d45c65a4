-- Judging one row after another.
use Rattle.std.proofs.Common.{◌≡◌, ◌<◌, ◌≤◌, ◌+◌, ◌++◌, ℕ, zero, suc, List, [], ◌∷◌, length, take, drop, set, Some, refl, ap, ◌∙◌, sym, arith, append-nil}
use Rattle.std.specs.Prelude.{slice_get}
use Rattle.std.proofs.Math.ListN.{drop_of_length-le}
use Rattle.std.proofs.lemmas.List.{length-set, take_all}
use Rattle.record_rows.specs.declared.rows.Row.{Row}
use Rattle.record_faults.specs.declared.places.Place.{Place}
use Rattle.record_faults.specs.declared.places.Fate.TheVariants as fate
use Rattle.record_faults.specs.Places.{fate_of, settled, row_at, below_row, placed_from}

-- one row further
pub place_more : (rows : List Row) (i : ℕ) (above : Place) (r : Row) → slice_get rows i ≡ Some r
    → take i rows ++ placed_from above (drop i rows)
    ≡ take (suc i) (set rows i (row_at above r))
    ++ placed_from (below_row above (row_at above r)) (drop (suc i) (set rows i (row_at above r)))
unfolding placed_from
place_more [] zero above r e = absurd (cc)
place_more [] (suc i) above r e = absurd (cc)
place_more (first ∷ rows) zero above r e = let same : first ≡ r = cc in rw same refl
place_more (first ∷ rows) (suc i) above r e = ap (λ xs. first ∷ xs) (place_more rows i above r e)

-- a row that stays
same_row : (rows : List Row) (i : ℕ) (r : Row) → slice_get rows i ≡ Some r → rows ≡ set rows i r
same_row [] i r e = refl
same_row (first ∷ rows) zero r e = let same : first ≡ r = cc in ap (λ x. x ∷ rows) same
same_row (first ∷ rows) (suc i) r e = ap (λ xs. first ∷ xs) (same_row rows i r e)

pub row_stays : (rows : List Row) (i : ℕ) (above : Place) (r : Row) → slice_get rows i ≡ Some r
    → fate_of above r ≡ fate.Stands → rows ≡ set rows i (row_at above r)
row_stays rows i above r e is = same_row rows i r e ∙ ap (λ f. set rows i (settled f r)) (sym is)

-- a row that is passed over, or has no form, changes no place
pub passed_over : (above : Place) (r : Row) → fate_of above r ≡ fate.Skipped → above ≡ below_row above (row_at above r)
unfolding below_row
passed_over above r is = rw is refl

pub without_form : (above : Place) (r : Row) → fate_of above r ≡ fate.NoForm → above ≡ below_row above (row_at above r)
unfolding below_row
without_form above r is = rw is refl

got : (rows : List Row) (i : ℕ) → i < length rows → (r : Row) × (slice_get rows i ≡ Some r)
got [] i h = absurd (omega (arith, h))
got (first ∷ rows) zero h = (first, refl)
got (first ∷ rows) (suc i) h = got rows i (omega (arith, h))

-- one row further, as the loop has it
pub place_on : (all rows new : List Row) (i : ℕ) (above result : Place) → i < length rows
    → ((r : Row) → slice_get rows i ≡ Some r → new ≡ set rows i (row_at above r))
    → ((r : Row) → slice_get rows i ≡ Some r → result ≡ below_row above (row_at above r))
    → all ≡ take i rows ++ placed_from above (drop i rows)
    → all ≡ take (i + 1) new ++ placed_from result (drop (i + 1) new)
place_on all rows new i above result h is below e =
    let r = got rows i h in
    let next : i + 1 ≡ suc i = omega arith in
    rw (next, is r.0 r.1, below r.0 r.1) (e ∙ place_more rows i above r.0 r.1)

pub as_many : (rows new : List Row) (i : ℕ) (above : Place) → i < length rows
    → ((r : Row) → slice_get rows i ≡ Some r → new ≡ set rows i (row_at above r)) → length new ≡ length rows
as_many rows new i above h is =
    let r = got rows i h in
    ap length (is r.0 r.1) ∙ length-set rows i (row_at above r.0)

pub all_placed : (all rows : List Row) (i : ℕ) (above : Place) → length rows ≤ i
    → all ≡ take i rows ++ placed_from above (drop i rows) → rows ≡ all
unfolding placed_from
all_placed all rows i above h e =
    let none : drop i rows ≡ [] = drop_of_length-le rows h in
    let some : take i rows ≡ rows = take_all i rows h in
    sym (e ∙ ap (λ l. l ++ placed_from above (drop i rows)) some ∙ ap (λ l. rows ++ placed_from above l) none ∙ append-nil rows)
