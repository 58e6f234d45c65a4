-- The composer text of a record is no longer than the record.
use Rattle.std.proofs.Common.{◌≡◌, ◌≤◌, ◌+◌, ◌-◌, ◌++◌, ◌∷◌, ℕ, suc, zero, Bool, true, false, List, [], arith, codes, cond, drop}
use Rattle.std.proofs.Common.{eqb, if◌then◌else◌, length, length-append, refl, take}
use Rattle.std.proofs.lemmas.List.{length-take-le}
use Rattle.std.specs.List.{onto_first, slice_split}
use Rattle.std.specs.Prelude.{slice_index}
use Rattle.std.specs.Str.{bytes_eq}
use Rattle.syntax.specs.Splits.{lines_of, without_last_feed}
use Rattle.night_records.specs.Composers.{composer_text, text_before_steps}

-- how many bytes lines have, each with a line feed
abbrev bytes_in : List (List ℕ) → ℕ
bytes_in [] = 0
bytes_in (line ∷ lines) = length line + 1 + bytes_in lines

-- the parts of a text
split_bytes : (p : ℕ → Bool) (text : List ℕ) → bytes_in (slice_split p text) ≡ length text + 1
split_bytes p [] = refl
split_bytes p (x ∷ text) = go (p x) (slice_split p text) (split_bytes p text)
  where
    go : (b : Bool) (parts : List (List ℕ)) → bytes_in parts ≡ length text + 1
        → bytes_in (cond b ([] ∷ parts) (onto_first x parts)) ≡ length (x ∷ text) + 1
    go true parts h = omega (arith, h)
    go false [] h = absurd (omega (arith, h))
    go false (part ∷ parts) h = omega (arith, h)

lines_bytes : (text : List ℕ) → bytes_in (lines_of text) ≤ length text + 1
unfolding lines_of
lines_bytes text = go (eqb (length text) 0)
  where
    parts : (b : Bool)
        → bytes_in (slice_split (λ c. eqb c 10) (if b then take (length text - 1) text else text)) ≤ length text + 1
    parts true =
        let h = split_bytes (λ c. eqb c 10) (take (length text - 1) text) in
        let few = length-take-le (length text - 1) text (omega arith) in
        omega (arith, h, few)
    parts false = let h = split_bytes (λ c. eqb c 10) text in omega (arith, h)

    go : (b : Bool)
        → bytes_in (if b then [] else slice_split (λ c. eqb c 10) (without_last_feed text)) ≤ length text + 1
    go true = omega arith
    go false = parts (eqb (slice_index text (length text - 1)) 10)

-- the lines up to `$STEPS`
before_few : (lines : List (List ℕ)) → length (text_before_steps lines) ≤ bytes_in lines
before_few [] = omega arith
before_few (line ∷ lines) = go (bytes_eq line (codes "$STEPS")) (before_few lines)
  where
    go : (b : Bool) → length (text_before_steps lines) ≤ bytes_in lines
        → length (if b then [] else ((line ++ 10 ∷ []) ++ text_before_steps lines)) ≤ bytes_in (line ∷ lines)
    go true h = omega arith
    go false h =
        omega (arith, h, length-append (line ++ 10 ∷ []) (text_before_steps lines), length-append line (10 ∷ []))

dropped_few : (n : ℕ) (lines : List (List ℕ)) → bytes_in (drop n lines) ≤ bytes_in lines
dropped_few zero lines = omega arith
dropped_few (suc n) [] = omega arith
dropped_few (suc n) (line ∷ lines) = let h = dropped_few n lines in omega (arith, h)

-- one line at least stands above
behind_few : (n most : ℕ) (lines : List (List ℕ)) → bytes_in lines ≤ most + 1
    → length (text_before_steps (drop (suc n) lines)) ≤ most
behind_few n most [] h = omega arith
behind_few n most (line ∷ lines) h = omega (arith, h, before_few (drop n lines), dropped_few n lines)

pub composer_text_few : (text : List ℕ) (place : ℕ) → length (composer_text text place) ≤ length text
unfolding composer_text
composer_text_few text place =
    let next : place + 1 ≡ suc place = omega arith in
    rw next (behind_few place (length text) (lines_of text) (lines_bytes text))
