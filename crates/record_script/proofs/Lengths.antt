-- How many rows a text has, and on which lines faults stand.
use Rattle.std.proofs.Common.{◌≡◌, ◌⊎◌, ◌<◌, ◌≤◌, ◌+◌, ◌-◌, ℕ, suc, Bool, true, false, List, [], ◌∷◌, ◌++◌, Option, Some, None, length}
use Rattle.std.proofs.Common.{refl, ap, sym, subst, ◌∙◌, inl, inr, arith, cond, eqb, take, option_map, if◌then◌else◌, length-append}
use Rattle.std.specs.Prelude.{nat_le, nat_lt, count_by, slice_index}
use Rattle.std.specs.List.{position, position_or_len, slice_split}
use Rattle.std.specs.Option.{option_map_or}
use Rattle.std.proofs.lemmas.List.{length-map, length-take-le}
use Rattle.std.proofs.lemmas.List.Splits.{length-slice_split}
use Rattle.std.proofs.lemmas.List.Sums.{sum_by-append}
use Rattle.std.proofs.lemmas.Bool.Decides.{nat_tests}
use Rattle.lemmas.proofs.Lists.{index_last}
use Rattle.syntax.specs.Splits.{lines_of, without_last_feed}
use Rattle.record_rows.specs.declared.rows.Row.{Row}
use Rattle.record_rows.specs.Rows.{row_of, rows_of}
use Rattle.record_faults.specs.declared.places.Place.{Place}
use Rattle.record_faults.specs.declared.kinds.ScriptKind.{ScriptKind}
use Rattle.record_faults.specs.declared.kinds.ScriptKind.TheVariants as kind
use Rattle.record_faults.specs.Places.{placed_from, row_at, below_row}
use Rattle.record_faults.specs.Known.{Named, named_in}
use Rattle.record_faults.specs.Faults.{fault_of, fault_from, first_fault}
use Rattle.record_script.specs.Scripts as spec
use Rattle.record_script.proofs.Picked.{last_split}
use Rattle.record_script.specs.Scripts.{is_definitions, definitions_line, with_definitions, placed}

count_most : {X : Type 0} (p : X → Bool) (xs : List X) → count_by p xs ≤ length xs
count_most p [] = omega arith
count_most p (x ∷ xs) = go (p x) (count_most p xs)
  where
    one : count_by p (x ∷ xs) ≡ count_by p (x ∷ []) + count_by p xs
    one = sum_by-append (λ y. cond (p y) 1 0) (x ∷ []) xs

    go : (b : Bool) → count_by p xs ≤ length xs → count_by p (x ∷ xs) ≤ length (x ∷ xs)
    go b h = let e = one in let few : count_by p (x ∷ []) ≤ 1 = at_most (p x) in omega (arith, e, few, h)
      where
        at_most : (c : Bool) → 0 + cond c 1 0 ≤ 1
        at_most true = omega arith
        at_most false = omega arith

-- without a line feed at its end a text has fewer of them than bytes
fewer : (text : List ℕ) → eqb (length text) 0 ≡ false → eqb (slice_index text (length text - 1)) 10 ≡ false
    → count_by (λ c. eqb c 10) text < length text
fewer text some last = go (last_split text)
  where
    go : (text ≡ []) ⊎ ((before : List ℕ) × (a : ℕ) × (text ≡ before ++ a ∷ [])) → count_by (λ c. eqb c 10) text < length text
    go (inl e) = absurd (let none : eqb (length text) 0 ≡ true = ap (λ l. eqb (length l) 0) e in cc)
    go (inr s) =
        let before : List ℕ = s.0 in
        let a : ℕ = s.1 in
        let long : length text ≡ length before + 1 = ap length s.2 ∙ length-append before (a ∷ []) in
        let place_ : length text - 1 ≡ length before = omega (arith, long) in
        let at_ : slice_index text (length text - 1) ≡ a =
        ap (λ k. slice_index text k) place_ ∙ ap (λ l. slice_index l (length before)) s.2 ∙ index_last before a in
        let no_feed : eqb a 10 ≡ false = sym (ap (λ b. eqb b 10) at_) ∙ last in
        let counted : count_by (λ c. eqb c 10) text ≡ count_by (λ c. eqb c 10) before + (0 + cond (eqb a 10) 1 0) =
        ap (count_by (λ c. eqb c 10)) s.2 ∙ sum_by-append (λ y. cond (eqb y 10) 1 0) before (a ∷ []) in
        let here : 0 + cond (eqb a 10) 1 0 ≡ 0 = ap (λ b. 0 + cond b 1 0) no_feed in
        let most = count_most (λ c. eqb c 10) before in
        omega (arith, counted, here, most, long)

pub few_lines : (text : List ℕ) → length (lines_of text) ≤ length text
unfolding lines_of
few_lines text = go (eqb (length text) 0) refl
  where
    pieces : (b : Bool) → eqb (length text) 0 ≡ false → eqb (slice_index text (length text - 1)) 10 ≡ b
        → length (slice_split (λ c. eqb c 10) (if b then take (length text - 1) text else text)) ≤ length text
    pieces true some last =
        let all = length-slice_split (λ c. eqb c 10) (take (length text - 1) text) in
        let few = count_most (λ c. eqb c 10) (take (length text - 1) text) in
        let long = length-take-le (length text - 1) text (omega arith) in
        let more : 0 < length text = grind (arith, nat_tests) in
        omega (arith, all, few, long, more)
    pieces false some last =
        let all = length-slice_split (λ c. eqb c 10) text in
        let few = fewer text some last in
        omega (arith, all, few)

    go : (b : Bool) → eqb (length text) 0 ≡ b
        → length (if b then [] else slice_split (λ c. eqb c 10) (without_last_feed text)) ≤ length text
    go true is = omega arith
    go false is = pieces (eqb (slice_index text (length text - 1)) 10) is refl

pub few_rows : (text : List ℕ) → length (rows_of text) ≤ length text
few_rows text = let e = length-map (lines_of text) row_of in let few = few_lines text in omega (arith, e, few)

pub placed_length : (p : Place) (rows : List Row) → length (placed_from p rows) ≡ length rows
unfolding placed_from
placed_length p [] = refl
placed_length p (r ∷ rows) = ap suc (placed_length (below_row p (row_at p r)) rows)

-- a fault stands on one of the lines
some_line : (a l : ℕ) (j k : ScriptKind) → ◌≡◌ {A = Option (ℕ × ScriptKind)} (Some (a, j)) (Some (l, k)) → a ≡ l
some_line a l j k e = ap (λ (o : Option (ℕ × ScriptKind)). option_map_or (λ (p : ℕ × ScriptKind). p.0) o a) e

line_from : (n : Named) (above rows : List Row) (l : ℕ) (k : ScriptKind) → fault_from n above rows ≡ Some (l, k)
    → l ≤ length above + length rows
line_from n above [] l k e = absurd (cc)
line_from n above (r ∷ rows) l k e =
    go (fault_of n (record { above = above; here = r; below = rows })) e (line_from n (above ++ r ∷ []) rows l k)
  where
    go : (o : Option ScriptKind)
        → option_map_or (λ j. Some (1 + length above, j)) o (fault_from n (above ++ r ∷ []) rows) ≡ Some (l, k)
        → (fault_from n (above ++ r ∷ []) rows ≡ Some (l, k) → l ≤ length (above ++ r ∷ []) + length rows)
        → l ≤ length above + length (r ∷ rows)
    go None h more = let long = length-append above (r ∷ []) in let low = more h in omega (arith, long, low)
    go (Some j) h more = let is = some_line (1 + length above) l j k h in omega (arith, is)

line_of_first : (n : Named) (rows : List Row) (l : ℕ) (k : ScriptKind) → first_fault n rows ≡ Some (l, k)
    → (l ≡ 1) ⊎ (l ≤ length rows)
unfolding first_fault
line_of_first n [] l k e = inl (sym (some_line 1 l kind.BadLine k e))
line_of_first n (r ∷ rows) l k e = let low = line_from n [] (r ∷ rows) l k e in inr (omega (arith, low))

pub place_within : {X : Type 0} (p : X → Bool) (xs : List X) (i : ℕ) → position p xs ≡ Some i → i < length xs
place_within p xs i e = go (nat_lt (position_or_len p xs) (length xs)) refl
  where
    go : (b : Bool) → nat_lt (position_or_len p xs) (length xs) ≡ b → i < length xs
    go false is = absurd (let none : position p xs ≡ None = ap (λ b. cond b (Some (position_or_len p xs)) None) is in cc)
    go true is =
        let some : position p xs ≡ Some (position_or_len p xs) = ap (λ b. cond b (Some (position_or_len p xs)) None) is in
        let same : position_or_len p xs ≡ i = cc in
        let low : position_or_len p xs < length xs = grind (arith, nat_tests) in
        omega (arith, same, low)

pub definitions_within : (rows : List Row) (l : ℕ) → definitions_line rows ≡ Some l → l ≤ length rows
definitions_within rows l e = go (position is_definitions rows) refl
  where
    go : (o : Option ℕ) → position is_definitions rows ≡ o → l ≤ length rows
    go None is = absurd (let none : definitions_line rows ≡ None = ap (option_map (λ i. i + 1)) is in cc)
    go (Some i) is =
        let some : definitions_line rows ≡ Some (i + 1) = ap (option_map (λ j. j + 1)) is in
        let same : i + 1 ≡ l = cc in
        let low = place_within is_definitions rows i is in
        omega (arith, same, low)

pub line_of_fault : (rows : List Row) (l : ℕ) (k : ScriptKind) → spec.fault_of rows ≡ Some (l, k)
    → (l ≡ 1) ⊎ (l ≤ length rows)
unfolding with_definitions
line_of_fault rows l k e = go (definitions_line rows) refl (first_fault (named_in rows) rows) refl
  where
    go : (d : Option ℕ) → definitions_line rows ≡ d → (f : Option (ℕ × ScriptKind)) → first_fault (named_in rows) rows ≡ f
        → (l ≡ 1) ⊎ (l ≤ length rows)
    go None a f b =
        let is : first_fault (named_in rows) rows ≡ Some (l, k) =
        sym (ap (λ o. with_definitions o (first_fault (named_in rows) rows)) a) ∙ e in
        line_of_first (named_in rows) rows l k is
    go (Some d) a None b =
        let is : Some (d, kind.NotBuilt) ≡ Some (l, k) =
        sym (ap (λ o. with_definitions o (first_fault (named_in rows) rows)) a ∙ ap (with_definitions (Some d)) b) ∙ e in
        let same = some_line d l kind.NotBuilt k is in
        inr (subst (λ x. x ≤ length rows) same (definitions_within rows d a))
    go (Some d) a (Some f) b = on (nat_le f.0 d) refl
      where
        on : (c : Bool) → nat_le f.0 d ≡ c → (l ≡ 1) ⊎ (l ≤ length rows)
        on true is =
            let found : Some f ≡ Some (l, k) =
            sym (ap (λ o. with_definitions o (first_fault (named_in rows) rows)) a ∙ ap (with_definitions (Some d)) b
            ∙ ap (λ c. if c then Some f else Some (d, kind.NotBuilt)) is) ∙ e in
            line_of_first (named_in rows) rows l k (b ∙ found)
        on false is =
            let found : Some (d, kind.NotBuilt) ≡ Some (l, k) =
            sym (ap (λ o. with_definitions o (first_fault (named_in rows) rows)) a ∙ ap (with_definitions (Some d)) b
            ∙ ap (λ c. if c then Some f else Some (d, kind.NotBuilt)) is) ∙ e in
            let same = some_line d l kind.NotBuilt k found in
            inr (subst (λ x. x ≤ length rows) same (definitions_within rows d a))
