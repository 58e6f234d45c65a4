-- How many bytes and lines there are.
use Rattle.std.proofs.Common.{◌≡◌, ◌<◌, ◌≤◌, ◌+◌, ◌-◌, ◌^◌, ℕ, suc, zero, Bool, true, false, List, [], ◌∷◌, ◌++◌, Option, Some, None, length}
use Rattle.std.proofs.Common.{refl, ap, sym, subst, ◌∙◌, arith, cond, eqb, take, drop, if◌then◌else◌, length-append, map}
use Rattle.std.specs.Prelude.{flat_map, slice_index, codes}
use Rattle.std.specs.List.{onto_first, slice_split}
use Rattle.std.proofs.lemmas.List.{length-drop, length-map, length-take-le, take_all}
use Rattle.lemmas.proofs.Texts.{some_parts}
use Rattle.syntax.specs.Splits.{lines_of, without_last_feed}
use Rattle.record_script.proofs.Lengths.{few_lines}
use Rattle.history_script.specs.Fronts.{as_in_record, is_foreign, record_line, record_text}
use Rattle.history_script.specs.Histories.{line_behind, lines_behind}
use Rattle.history_script.specs.Taken.{lines_size}

onto_size : (x : ℕ) (ls : List (List ℕ)) → 0 < length ls → lines_size (onto_first x ls) ≡ 1 + lines_size ls
onto_size x [] some = absurd (omega (arith, some))
onto_size x (part ∷ parts) some = omega arith

-- the parts of a text
pub split_size : (p : ℕ → Bool) (xs : List ℕ) → lines_size (slice_split p xs) ≡ length xs + 1
split_size p [] = refl
split_size p (x ∷ xs) = go (p x) (split_size p xs)
  where
    go : (b : Bool) → lines_size (slice_split p xs) ≡ length xs + 1
        → lines_size (cond b ([] ∷ slice_split p xs) (onto_first x (slice_split p xs))) ≡ length (x ∷ xs) + 1
    go true h = omega (arith, h)
    go false h =
        let o = onto_size x (slice_split p xs) (some_parts p xs) in
        omega (arith, h, o)

pub lines_fit : (text : List ℕ) → lines_size (lines_of text) ≤ length text + 1
unfolding lines_of
lines_fit text = go (eqb (length text) 0)
  where
    parts : (b : Bool)
        → lines_size (slice_split (λ c. eqb c 10) (if b then take (length text - 1) text else text)) ≤ length text + 1
    parts true =
        let h = split_size (λ c. eqb c 10) (take (length text - 1) text) in
        let long = length-take-le (length text - 1) text (omega arith) in
        omega (arith, h, long)
    parts false = let h = split_size (λ c. eqb c 10) text in omega (arith, h)

    go : (b : Bool)
        → lines_size (if b then [] else slice_split (λ c. eqb c 10) (without_last_feed text)) ≤ length text + 1
    go true = omega arith
    go false = parts (eqb (slice_index text (length text - 1)) 10)

-- lines are no longer in a record
line_size : (line : List ℕ) → length (as_in_record line) ≤ length line
line_size [] = omega arith
line_size (x ∷ line) = go (is_foreign (x ∷ line))
  where
    go : (b : Bool) → length (if b then codes "$" else x ∷ line) ≤ length (x ∷ line)
    go true = omega arith
    go false = omega arith

record_size : (lines : List (List ℕ)) → length (flat_map record_line lines) ≤ lines_size lines
record_size [] = omega arith
record_size (line ∷ lines) =
    let h = record_size lines in
    let l = line_size line in
    let e = length-append (record_line line) (flat_map record_line lines) in
    let f = length-append (as_in_record line) (10 ∷ []) in
    omega (arith, h, l, e, f)

pub taken_size : (n : ℕ) (lines : List (List ℕ)) → lines_size (take n lines) ≤ lines_size lines
taken_size zero lines = omega arith
taken_size (suc n) [] = omega arith
taken_size (suc n) (line ∷ lines) = let h = taken_size n lines in omega (arith, h)

pub dropped_size : (n : ℕ) (lines : List (List ℕ)) → lines_size (drop n lines) ≤ lines_size lines
dropped_size zero lines = omega arith
dropped_size (suc n) [] = omega arith
dropped_size (suc n) (line ∷ lines) = let h = dropped_size n lines in omega (arith, h)

text_size : (place : Option ℕ) (lines : List (List ℕ)) → length (record_text place lines) ≤ lines_size lines + 7
unfolding record_text
text_size None lines = let h = record_size lines in omega (arith, h)
text_size (Some place) lines =
    let h = record_size (take place lines) in
    let t = taken_size place lines in
    let e = length-append (flat_map record_line (take place lines)) (codes "$STEPS\n") in
    omega (arith, h, t, e)

behind_size : (place : Option ℕ) (lines : List (List ℕ)) → lines_size (lines_behind place lines) ≤ lines_size lines
behind_size None lines = omega arith
behind_size (Some place) lines = dropped_size (place + 1) lines

behind_count : (place : Option ℕ) (lines : List (List ℕ))
    → ((p : ℕ) → place ≡ Some p → p < length lines)
    → line_behind place + length (lines_behind place lines) ≤ length lines + 1
behind_count None lines within = omega arith
behind_count (Some p) lines within =
    let h = within p refl in
    let d = length-drop (p + 1) lines in
    omega (arith, h, d)

-- Parts of slices, as they are seen.

seen_drop : {A : Type 0} (see : A → List ℕ) (n : ℕ) (texts : List A) → map see (drop n texts) ≡ drop n (map see texts)
seen_drop see zero texts = refl
seen_drop see (suc n) [] = refl
seen_drop see (suc n) (t ∷ texts) = seen_drop see n texts

seen_take : {A : Type 0} (see : A → List ℕ) (n : ℕ) (texts : List A) → map see (take n texts) ≡ take n (map see texts)
seen_take see zero texts = refl
seen_take see (suc n) [] = refl
seen_take see (suc n) (t ∷ texts) = ap (λ l. see t ∷ l) (seen_take see n texts)

pub behind_seen : {A : Type 0} (see : A → List ℕ) (texts : List A) (place : Option ℕ) (p : ℕ) → place ≡ Some p
    → map see (take (length texts - (p + 1)) (drop (p + 1) texts)) ≡ lines_behind place (map see texts)
behind_seen see texts place p is =
    let d = length-drop (p + 1) texts in
    ap (map see) (take_all (length texts - (p + 1)) (drop (p + 1) texts) (omega (arith, d)))
    ∙ seen_drop see (p + 1) texts
    ∙ ap (λ o. lines_behind o (map see texts)) (sym is)

pub text_seen : {A : Type 0} (see : A → List ℕ) (texts : List A) (place : Option ℕ) (p n : ℕ) (made whole : List ℕ)
    → place ≡ Some p → n ≡ p → made ≡ flat_map record_line (map see (take n texts)) → whole ≡ made ++ codes "$STEPS\n"
    → whole ≡ record_text place (map see texts)
unfolding record_text
text_seen see texts place p n made whole is same front all =
    let of_place : record_text (Some p) (map see texts) ≡ record_text place (map see texts) =
    ap (λ o. record_text o (map see texts)) (sym is) in
    all ∙ ap (λ l. l ++ codes "$STEPS\n") (front ∙ ap (λ k. flat_map record_line (map see (take k texts))) same
    ∙ ap (flat_map record_line) (seen_take see p texts)) ∙ of_place

-- As the call has it: some texts are seen as the lines of the whole text.

pub record_fits : {A : Type 0} (see : A → List ℕ) (texts : List A) (text : List ℕ) (place : Option ℕ)
    → map see texts ≡ lines_of text → length text < 2 ^ 32 - 8 → length (record_text place (map see texts)) < 2 ^ 32
record_fits see texts text place are few =
    let s = text_size place (map see texts) in
    let t : lines_size (map see texts) ≤ length text + 1 =
    subst (λ l. lines_size l ≤ length text + 1) (sym are) (lines_fit text) in
    omega (arith, s, t, few)

pub behind_fits : {A : Type 0} (see : A → List ℕ) (texts : List A) (text : List ℕ) (place : Option ℕ)
    → map see texts ≡ lines_of text → length text < 2 ^ 32 - 8 → lines_size (lines_behind place (map see texts)) < 2 ^ 32
behind_fits see texts text place are few =
    let b = behind_size place (map see texts) in
    let t : lines_size (map see texts) ≤ length text + 1 =
    subst (λ l. lines_size l ≤ length text + 1) (sym are) (lines_fit text) in
    omega (arith, b, t, few)

pub numbers_fit : {A : Type 0} (see : A → List ℕ) (texts : List A) (text : List ℕ) (place : Option ℕ)
    → map see texts ≡ lines_of text → length text < 2 ^ 32 - 8 → ((p : ℕ) → place ≡ Some p → p < length texts)
    → line_behind place + length (lines_behind place (map see texts)) < 2 ^ 32
numbers_fit see texts text place are few within =
    let long = length-map texts see in
    let b = behind_count place (map see texts)
    (λ p is. let h = within p is in omega (arith, h, long)) in
    let t : length (map see texts) ≤ length text = subst (λ l. length l ≤ length text) (sym are) (few_lines text) in
    omega (arith, b, t, few)

-- the lines behind, as a slice of their own
pub slice_count : {A : Type 0} (see : A → List ℕ) (behind : List A) (lines : List (List ℕ)) (first line : ℕ)
    → first ≡ line → map see behind ≡ lines → line + length lines < 2 ^ 32 → first + length behind < 2 ^ 32
slice_count see behind lines first line same are few =
    let long : length behind ≡ length lines = sym (length-map behind see) ∙ ap length are in
    omega (arith, same, long, few)
