-- The walk from row to row.
use Rattle.std.proofs.Common.{◌≡◌, ◌<◌, ◌+◌, ◌-◌, ℕ, suc, zero, Bool, true, false, ◌&&◌, not, eqb, List, [], ◌∷◌, ◌++◌, Option, Some, None, length, refl, ap, sym, ◌∙◌, arith, length-append, append_assoc, take, drop, get_or, if◌then◌else◌}
use Rattle.std.specs.List.{list_any}
use Rattle.std.proofs.lemmas.Bool.Decides.{nat_tests}
use Rattle.record_rows.specs.declared.rows.Row.{Row}
use Rattle.record_faults.specs.Known.{Named, Above, above_of, has_name, jobs, jobs_around, since, until, begins_stream, is_steps}
use Rattle.std.proofs.lemmas.List.{length-take-le, length-drop, take-append-drop, take_all}
use Rattle.lemmas.proofs.Booleans.{and_false, and_true}
use Rattle.lemmas.proofs.Numbers.{suc_not_zero}
use Rattle.record_faults.specs.Noted.{IsSame}
use Rattle.record_faults.specs.Faults.{Placed, Items, items_around, lacks_item, lacks_condition, fault_by, fault_of, fault_from}
use Rattle.record_faults.specs.Faults.{ends_too_soon, first_fault}
use Rattle.record_faults.proofs.SameFaults.{HasSame, same_items, same_fault}
use Rattle.record_faults.specs.declared.kinds.ScriptKind.{ScriptKind}
use Rattle.record_faults.proofs.RowsAbove.{since_more}

-- a row without a fault, and one with a fault
pub row_without : (n : Named) (above below : List Row) (r : Row)
    → fault_of n (record { above = above; here = r; below = below }) ≡ None
    → fault_from n above (r ∷ below) ≡ fault_from n (above ++ r ∷ []) below
row_without n above below r is = rw is refl

pub row_with : (n : Named) (above below : List Row) (r : Row) (k : ScriptKind)
    → fault_of n (record { above = above; here = r; below = below }) ≡ Some k
    → fault_from n above (r ∷ below) ≡ Some (1 + length above, k)
row_with n above below r k is = rw is refl

-- the last row
last_row : (above : List Row) (r : Row) → eqb (length above + 1) (length (above ++ r ∷ [])) ≡ true
last_row above r = rw (length-append above (r ∷ [])) (grind (arith, nat_tests))

other_row : (above below : List Row) (r b : Row) → eqb (length above + 1) (length (above ++ r ∷ b ∷ below)) ≡ false
other_row above below r b = rw (length-append above (r ∷ b ∷ below)) (grind (arith, nat_tests))

pub ends_here : (above below : List Row) (r : Row)
    → (not (list_any is_steps (above ++ r ∷ below)) && eqb (length above + 1) (length (above ++ r ∷ below)))
    ≡ ends_too_soon (record { above = above; here = r; below = below })
ends_here above [] r = rw (last_row above r) (and_true (not (list_any is_steps (above ++ r ∷ []))))
ends_here above (b ∷ below) r =
    rw (other_row above below r b, suc_not_zero (length below))
    (and_false (not (list_any is_steps (above ++ r ∷ b ∷ below))))

-- the jobs of the stream, on both sides of a row
around_by : (above below : List Row) (r : Row) (b : Bool) → begins_stream r ≡ b
    → (if b then [] else since begins_stream above ++ r ∷ []) ++ until begins_stream below
    ≡ (if b then until begins_stream below else since begins_stream above ++ until begins_stream (r ∷ below))
around_by above below r true is = refl
around_by above below r false is =
    rw is (append_assoc (since begins_stream above) (r ∷ []) (until begins_stream below))

around : (above below : List Row) (r : Row)
    → since begins_stream (above ++ r ∷ []) ++ until begins_stream below
    ≡ (if begins_stream r then until begins_stream below else since begins_stream above ++ until begins_stream (r ∷ below))
around above below r =
    ap (λ l. l ++ until begins_stream below) (since_more begins_stream above r)
    ∙ around_by above below r (begins_stream r) refl

pub around_new : (above below : List Row) (r : Row) (n : List ℕ) → begins_stream r ≡ true
    → has_name (jobs (until begins_stream below)) n ≡ has_name (jobs_around (above ++ r ∷ []) below) n
around_new above below r n is =
    let e : (if begins_stream r then until begins_stream below else since begins_stream above ++ until begins_stream (r ∷ below)) ≡ until begins_stream below = rw is refl in
    ap (λ l. has_name (jobs l) n) (sym (around above below r ∙ e))

pub around_same : (above below : List Row) (r : Row) (n : List ℕ) → begins_stream r ≡ false
    → has_name (jobs_around above (r ∷ below)) n ≡ has_name (jobs_around (above ++ r ∷ []) below) n
around_same above below r n is =
    let e : (if begins_stream r then until begins_stream below else since begins_stream above ++ until begins_stream (r ∷ below)) ≡ since begins_stream above ++ until begins_stream (r ∷ below) = rw is refl in
    ap (λ l. has_name (jobs l) n) (sym (around above below r ∙ e))

-- a list on both sides of an element
taken_suc : (rows : List Row) (i : ℕ) (r : Row) → i < length rows → r ≡ get_or rows i r
    → take (suc i) rows ≡ take i rows ++ r ∷ []
taken_suc [] i r h is = absurd (omega (arith, h))
taken_suc (x ∷ rows) zero r h is = ap (λ a. a ∷ []) (sym is)
taken_suc (x ∷ rows) (suc i) r h is = ap (λ l. x ∷ l) (taken_suc rows i r (omega (arith, h)) is)

left_suc : (rows : List Row) (i : ℕ) (r : Row) → i < length rows → r ≡ get_or rows i r
    → drop i rows ≡ r ∷ drop (suc i) rows
left_suc [] i r h is = absurd (omega (arith, h))
left_suc (x ∷ rows) zero r h is = ap (λ a. a ∷ rows) (sym is)
left_suc (x ∷ rows) (suc i) r h is = left_suc rows i r (omega (arith, h)) is

pub taken_more : (rows : List Row) (i : ℕ) (r : Row) → i < length rows → r ≡ get_or rows i r
    → take (i + 1) rows ≡ take i rows ++ r ∷ []
taken_more rows i r h is = let e : i + 1 ≡ suc i = omega arith in rw e (taken_suc rows i r h is)

pub left_at : (rows : List Row) (i : ℕ) (r : Row) → i < length rows → r ≡ get_or rows i r
    → drop i rows ≡ r ∷ drop (i + 1) rows
left_at rows i r h is = let e : i + 1 ≡ suc i = omega arith in rw e (left_suc rows i r h is)

-- the row is judged by what stands around it
pub judged_is : (n : Named) (above below : List Row) (r : Row) (a : Above) (js : List (List ℕ)) (ends : Bool)
    (o : Option ScriptKind) → IsSame a (above_of above)
    → ((m : List ℕ) → has_name js m ≡ has_name (jobs_around above (r ∷ below)) m)
    → ends ≡ ends_too_soon (record { above = above; here = r; below = below })
    → o ≡ fault_by n.stations a (lacks_item (record { jobs = js; resources = n.resources; prompts = n.prompts }) a.ws r)
    (lacks_condition r) ends r
    → o ≡ fault_of n (record { above = above; here = r; below = below })
unfolding fault_of
judged_is n above below r a js ends o s h e is =
    let p : Placed = record { above = above; here = r; below = below } in
    let found : Items = record { jobs = js; resources = n.resources; prompts = n.prompts } in
    let items : HasSame found (items_around n p) = record { jobs = h; resources = λ k. refl; prompts = λ m. refl } in
    let named : lacks_item found a.ws r ≡ lacks_item (items_around n p) (above_of above).ws r =
    same_items found (items_around n p) a.ws r items ∙ ap (λ w. lacks_item (items_around n p) w r) s.ws in
    is
    ∙ ap (λ x. fault_by n.stations a x (lacks_condition r) ends r) named
    ∙ same_fault n.stations a (above_of above) (lacks_item (items_around n p) (above_of above).ws r) (lacks_condition r)
    ends r s
    ∙ ap (λ x. fault_by n.stations (above_of above) (lacks_item (items_around n p) (above_of above).ws r)
    (lacks_condition r) x r) e

-- the row at a place
pub judged_at : (n : Named) (rows : List Row) (i : ℕ) (r : Row) (a : Above) (js : List (List ℕ)) (ends : Bool)
    (o : Option ScriptKind) → i < length rows → r ≡ get_or rows i r → IsSame a (above_of (take i rows))
    → ((m : List ℕ) → has_name js m ≡ has_name (jobs_around (take i rows) (drop i rows)) m)
    → ends ≡ (not (list_any is_steps rows) && eqb (i + 1) (length rows))
    → o ≡ fault_by n.stations a (lacks_item (record { jobs = js; resources = n.resources; prompts = n.prompts }) a.ws r)
    (lacks_condition r) ends r
    → o ≡ fault_of n (record { above = take i rows; here = r; below = drop (i + 1) rows })
judged_at n rows i r a js ends o h is s around_ e found =
    let left = left_at rows i r h is in
    let few : length (take i rows) ≡ i = length-take-le i rows (omega (arith, h)) in
    let all : rows ≡ take i rows ++ r ∷ drop (i + 1) rows =
    sym (take-append-drop i rows) ∙ ap (λ l. take i rows ++ l) left in
    let last : (not (list_any is_steps rows) && eqb (i + 1) (length rows))
    ≡ (not (list_any is_steps (take i rows ++ r ∷ drop (i + 1) rows))
    && eqb (length (take i rows) + 1) (length (take i rows ++ r ∷ drop (i + 1) rows))) =
    ap (λ l. not (list_any is_steps l) && eqb (i + 1) (length l)) all
    ∙ ap (λ k. not (list_any is_steps (take i rows ++ r ∷ drop (i + 1) rows))
    && eqb (k + 1) (length (take i rows ++ r ∷ drop (i + 1) rows))) (sym few) in
    judged_is n (take i rows) (drop (i + 1) rows) r a js ends o s
    (λ m. around_ m ∙ ap (λ l. has_name (jobs_around (take i rows) l) m) left)
    (e ∙ last ∙ ends_here (take i rows) (drop (i + 1) rows) r) found

-- the walk goes on, or ends here
pub goes_on : (n : Named) (rows : List Row) (i : ℕ) (r : Row) → i < length rows → r ≡ get_or rows i r
    → fault_of n (record { above = take i rows; here = r; below = drop (i + 1) rows }) ≡ None
    → fault_from n (take i rows) (drop i rows) ≡ fault_from n (take (i + 1) rows) (drop (i + 1) rows)
goes_on n rows i r h is none =
    ap (fault_from n (take i rows)) (left_at rows i r h is)
    ∙ row_without n (take i rows) (drop (i + 1) rows) r none
    ∙ ap (λ l. fault_from n l (drop (i + 1) rows)) (sym (taken_more rows i r h is))

pub ends_there : (n : Named) (rows : List Row) (i : ℕ) (r : Row) (k : ScriptKind) → i < length rows
    → r ≡ get_or rows i r
    → fault_of n (record { above = take i rows; here = r; below = drop (i + 1) rows }) ≡ Some k
    → fault_from n (take i rows) (drop i rows) ≡ Some (i + 1, k)
ends_there n rows i r k h is some =
    let few : 1 + length (take i rows) ≡ i + 1 = omega (arith, length-take-le i rows (omega (arith, h))) in
    ap (fault_from n (take i rows)) (left_at rows i r h is)
    ∙ row_with n (take i rows) (drop (i + 1) rows) r k some
    ∙ ap (λ line. Some (line, k)) few

pub from_start : (n : Named) (rows : List Row) → 0 < length rows → first_fault n rows ≡ fault_from n [] rows
unfolding first_fault
from_start n [] h = absurd (omega (arith, h))
from_start n (r ∷ rows) h = refl

pub whole_or_not : (w : Bool) (rows : List Row) (line : ℕ) (ends : Bool) → w ≡ list_any is_steps rows
    → ends ≡ (not w && eqb line (length rows)) → ends ≡ (not (list_any is_steps rows) && eqb line (length rows))
whole_or_not w rows line ends e is = is ∙ ap (λ b. not b && eqb line (length rows)) e

-- all behind a place
pub rest_of : (rows : List Row) (k : ℕ) → take (length rows - k) (drop k rows) ≡ drop k rows
rest_of rows k = take_all (length rows - k) (drop k rows) (omega (arith, length-drop k rows))
