-- No resource of a text has a total above 1,024 that counts as within its range.
use Rattle.std.proofs.Common.{◌≡◌, ℕ, Bool, true, false, ◌||◌, List, [], ◌∷◌, Option, Some, None, refl, ap, ◌∙◌, arith, option_map, unwrap_or, option_and_then, if◌then◌else◌}
use Rattle.std.specs.Prelude.{map, nat_le, nat_lt, codes}
use Rattle.std.specs.List.{list_any}
use Rattle.std.specs.Option.{option_map_or}
use Rattle.std.specs.Str.Parse.{digits_value}
use Rattle.std.proofs.lemmas.Bool.Decides.{nat_tests}
use Rattle.lemmas.proofs.Booleans.{neither}
use Rattle.syntax.specs.Names.{name_of}
use Rattle.syntax.specs.Numbers.{is_number}
use Rattle.syntax.specs.Splits.{lines_of, words_of, first_word, after_word}
use Rattle.record_rows.specs.declared.rows.Row.{Row}
use Rattle.record_rows.specs.declared.rows.Row.TheVariants as row
use Rattle.record_rows.specs.declared.rows.Ranged.TheVariants.{Within, OutOfRange}
use Rattle.record_rows.specs.Words.{up_to, ◌is◌}
use Rattle.record_rows.specs.Rows as rows
use Rattle.record_rows.specs.Rows.{header_of, station_of, resource_of, prompt_of, network_row, plan_row, form_below, form_of, row_of, rows_of, is_skipped, ◌else_◌}
use Rattle.record_rows.specs.Plans.{stream_of, job_of, part_of, dep_of}
use Rattle.record_rows.specs.Steps.{step_of}
use Rattle.record_faults.specs.declared.places.Place.{Place}
use Rattle.record_faults.specs.declared.places.Place.TheVariants as place
use Rattle.record_faults.specs.declared.places.Fate.{Fate}
use Rattle.record_faults.specs.declared.places.Fate.TheVariants as fate
use Rattle.record_faults.specs.Places.{fate_of, settled, placed_from, row_at, below_row}
use Rattle.record_script.proofs.Defined.{is_great}

-- of a row that may be there
abbrev great : Option Row → Bool
great o = option_map_or is_great o false

if_small : (b : Bool) (o q : Option Row) → great o ≡ false → great q ≡ false → great (if b then o else q) ≡ false
if_small true o q e h = e
if_small false o q e h = h

else_small : (o q : Option Row) → great o ≡ false → great q ≡ false → great (o else_ q) ≡ false
else_small None q e h = h
else_small (Some r) q e h = e

mapped_small : {A : Type 0} (f : A → Row) → ((a : A) → is_great (f a) ≡ false) → (o : Option A) → great (option_map f o) ≡ false
mapped_small f each None = refl
mapped_small f each (Some a) = each a

then_small : {A : Type 0} (f : A → Option Row) → ((a : A) → great (f a) ≡ false) → (o : Option A) → great (option_and_then f o) ≡ false
then_small f each None = refl
then_small f each (Some a) = each a

header_small : (text : List ℕ) → great (header_of text) ≡ false
header_small text = go (text is codes "$NETWORK") (text is codes "$DEFINITIONS") (text is codes "$PLAN") (text is codes "$STEPS")
  where
    go : (a b c d : Bool)
        → great (if a then Some row.Network else if b then Some row.Definitions else if c then Some row.Plan else if d then Some row.Steps else None)
        ≡ false
    go true b c d = refl
    go false true c d = refl
    go false false true d = refl
    go false false false true = refl
    go false false false false = refl

station_small : (words : List (List ℕ)) → great (station_of words) ≡ false
unfolding station_of
station_small [] = refl
station_small (name ∷ []) = mapped_small row.Master (λ n. refl) (name_of name)
station_small (name ∷ hop ∷ rest) =
    then_small _ (λ n. then_small _ (λ h. then_small _ (λ f. refl) (rows.flags_of rest)) (name_of hop)) (name_of name)

-- a total within its range is at most 1,024
total_small : (word w n : List ℕ) → great (option_and_then (λ t. Some (row.Resource w n t)) (up_to 1024 word)) ≡ false
unfolding up_to
total_small word w n = go (is_number word)
  where
    inside : (b : Bool) → nat_le (digits_value 10 word) 1024 ≡ b
        → is_great (row.Resource w n (if b then Within (digits_value 10 word) else OutOfRange)) ≡ false
    inside true h = let low : nat_lt 1024 (digits_value 10 word) ≡ false = grind (arith, nat_tests) in low
    inside false h = refl

    go : (b : Bool) → great (option_and_then (λ t. Some (row.Resource w n t)) (if b then Some (if nat_le (digits_value 10 word) 1024 then Within (digits_value 10 word) else OutOfRange) else None)) ≡ false
    go true = inside (nat_le (digits_value 10 word) 1024) refl
    go false = refl

resource_small : (words : List (List ℕ)) → great (resource_of words) ≡ false
unfolding resource_of
resource_small [] = refl
resource_small (ws ∷ []) = refl
resource_small (ws ∷ name ∷ []) = refl
resource_small (ws ∷ name ∷ total ∷ []) =
    then_small _ (λ w. then_small _ (λ n. total_small total w n) (name_of name)) (name_of ws)
resource_small (ws ∷ name ∷ total ∷ other ∷ rest) = refl

prompt_small : (rest : List ℕ) → great (prompt_of rest) ≡ false
unfolding prompt_of
prompt_small rest = then_small _ (λ n. mapped_small (row.Prompt n) (λ t. refl) _) (name_of (first_word rest))

network_small : (word rest : List ℕ) → great (network_row word rest) ≡ false
unfolding network_row
network_small word rest =
    if_small (word is codes "ws") (station_of (words_of rest))
    (if word is codes "res" then resource_of (words_of rest) else
    if word is codes "prompt" then prompt_of rest else
    if word is codes "carryforward" then option_map row.CarryForward (rows.carry_of rest) else None)
    (station_small (words_of rest))
    (if_small (word is codes "res") (resource_of (words_of rest))
    (if word is codes "prompt" then prompt_of rest else
    if word is codes "carryforward" then option_map row.CarryForward (rows.carry_of rest) else None)
    (resource_small (words_of rest))
    (if_small (word is codes "prompt") (prompt_of rest)
    (if word is codes "carryforward" then option_map row.CarryForward (rows.carry_of rest) else None)
    (prompt_small rest)
    (if_small (word is codes "carryforward") (option_map row.CarryForward (rows.carry_of rest)) None
    (mapped_small row.CarryForward (λ c. refl) (rows.carry_of rest)) refl)))

plan_small : (word rest : List ℕ) → great (plan_row word rest) ≡ false
unfolding plan_row
plan_small word rest =
    if_small (word is codes "stream") (option_map row.Stream (stream_of (words_of rest)))
    (if word is codes "job" then option_map row.Job (job_of (words_of rest)) else None)
    (mapped_small row.Stream (λ s. refl) (stream_of (words_of rest)))
    (if_small (word is codes "job") (option_map row.Job (job_of (words_of rest))) None
    (mapped_small row.Job (λ j. refl) (job_of (words_of rest))) refl)

below_small : (text : List ℕ) → great (form_below text) ≡ false
unfolding form_below
below_small text =
    else_small (network_row (first_word text) (after_word text)) _ (network_small (first_word text) (after_word text))
    (else_small (plan_row (first_word text) (after_word text)) _ (plan_small (first_word text) (after_word text))
    (else_small (option_map row.Part (part_of (first_word text) (after_word text))) _
    (mapped_small row.Part (λ p. refl) (part_of (first_word text) (after_word text)))
    (else_small (option_map row.Dep (dep_of (first_word text) (after_word text))) _
    (mapped_small row.Dep (λ d. refl) (dep_of (first_word text) (after_word text)))
    (mapped_small row.Step (λ s. refl) (step_of text)))))

form_small : (text : List ℕ) → great (form_of text) ≡ false
unfolding form_of
form_small text = else_small (header_of text) (form_below text) (header_small text) (below_small text)

unwrapped : (o : Option Row) → great o ≡ false → is_great (unwrap_or o row.NoForm) ≡ false
unwrapped None e = refl
unwrapped (Some r) e = e

row_small : (text : List ℕ) → is_great (row_of text) ≡ false
unfolding row_of
row_small text = go (is_skipped text)
  where
    go : (b : Bool) → is_great (if b then row.Skipped else unwrap_or (form_of text) row.NoForm) ≡ false
    go true = refl
    go false = unwrapped (form_of text) (form_small text)

lines_small : (lines : List (List ℕ)) → list_any is_great (map row_of lines) ≡ false
lines_small [] = refl
lines_small (l ∷ lines) = ap (λ b. b || list_any is_great (map row_of lines)) (row_small l) ∙ lines_small lines

settled_small : (f : Fate) (r : Row) → is_great r ≡ false → is_great (settled f r) ≡ false
settled_small fate.Stands r e = e
settled_small fate.Skipped r e = refl
settled_small fate.NoForm r e = refl

placed_small : (p : Place) (raw : List Row) → list_any is_great raw ≡ false → list_any is_great (placed_from p raw) ≡ false
unfolding placed_from
placed_small p [] e = refl
placed_small p (r ∷ raw) e =
    let parts = neither (is_great r) (list_any is_great raw) e in
    ap (λ b. b || list_any is_great (placed_from (below_row p (row_at p r)) raw)) (settled_small (fate_of p r) r parts.0)
    ∙ placed_small (below_row p (row_at p r)) raw parts.1

pub totals : (text : List ℕ) → list_any is_great (placed_from place.Nothing (rows_of text)) ≡ false
totals text = placed_small place.Nothing (rows_of text) (lines_small (lines_of text))
