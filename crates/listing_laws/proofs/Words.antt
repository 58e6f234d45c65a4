-- Lines by their first word, and the words of lines.
use Rattle.std.proofs.Common.{◌≡◌, ◌≤◌, ◌<◌, ◌+◌, ◌^◌, ℕ, true, false, ◌&&◌, ◌||◌, not, cond, eqb, ltb, leb, List, [], ◌∷◌, ◌++◌}
use Rattle.std.proofs.Common.{Option, Some, None, length, take, refl, ap, sym, ◌∙◌, arith, append-nil, append_assoc, option_map}
use Rattle.std.proofs.Common.{bytes_eq, if◌then◌else◌, unwrap_or}
use Rattle.std.specs.Fmt.{decimal}
use Rattle.std.specs.List.{AllByRecursion, before_first, list_all, position_or_len, prefix_len}
use Rattle.std.proofs.lemmas.Bool.{lt-ltb}
use Rattle.std.proofs.lemmas.Bool.Decides.{nat_tests}
use Rattle.std.proofs.lemmas.Fmt.{digits_value-decimal}
use Rattle.lemmas.proofs.Booleans.{and_parts}
use Rattle.lemmas.proofs.Lists.{take_whole}
use Rattle.lemmas.proofs.Numbers.{number_itself, suc_not_zero}
use Rattle.lemmas.proofs.Texts.{decimal_digits}
use Rattle.base_types.specs.Name.{is_name_byte, starts_with_letter}
use Rattle.composer_print.proofs.Spelling.{number_back}
use Rattle.history_laws.specs.Printables.{IsKeptName}
use Rattle.history_laws.proofs.Lines.{Lacks, after_here, before_here, lacks_append, lacks_by, split_here, split_whole}
use Rattle.history_laws.proofs.Words.{kept_form}
use Rattle.record_rows.specs.Plans.{dep_of, part_of}
use Rattle.record_rows.specs.Rows.{◌else_◌, form_below, form_of, header_of, is_skipped, network_row, plan_row, row_of}
use Rattle.record_rows.specs.Steps.{step_of}
use Rattle.record_rows.specs.Words.{sized}
use Rattle.record_rows.specs.declared.rows.Row.{Row}
use Rattle.record_rows.specs.declared.rows.Row.TheVariants as row
use Rattle.record_rows.specs.declared.rows.Ranged.TheVariants.{Within}
use Rattle.syntax.specs.Numbers.{number_of}
use Rattle.syntax.specs.Splits.{after_word, first_word, words_of}

-- the form of a line by its first word and what follows it
abbrev pub form_in : List ℕ → List ℕ → List ℕ → Option Row
form_in word rest text =
    network_row word rest
    else_ plan_row word rest
    else_ option_map row.Part (part_of word rest)
    else_ option_map row.Dep (dep_of word rest)
    else_ option_map row.Step (step_of text)

pub line_by : (c : ℕ) (w rest : List ℕ) (r : Row) → eqb c 35 ≡ false → eqb c 36 ≡ false → Lacks 32 (c ∷ w)
    → ((text : List ℕ) → form_in (c ∷ w) rest text ≡ Some r) → row_of (c ∷ (w ++ 32 ∷ rest)) ≡ r
unfolding row_of form_of form_below
line_by c w rest r plain other free forms =
    let text : List ℕ = c ∷ (w ++ 32 ∷ rest) in
    let here : form_in (first_word text) (after_word text) text ≡ Some r =
    ap (λ x. form_in x (after_word text) text) (before_here 32 (c ∷ w) rest free)
    ∙ ap (λ x. form_in (c ∷ w) x text) (after_here 32 (c ∷ w) rest free) ∙ forms text in
    let some : is_skipped text ≡ false = ap (λ b. b || eqb c 35) (suc_not_zero (length (w ++ 32 ∷ rest))) ∙ plain in
    let no_header : header_of text ≡ None = rw other refl in
    ap (λ b. if b then row.Skipped else unwrap_or (form_of text) row.NoForm) some
    ∙ ap (λ o. unwrap_or (o else_ form_below text) row.NoForm) no_header
    ∙ ap (λ o. unwrap_or o row.NoForm) here

-- Bytes that no name has.

name_lacks : (c : ℕ) → ((b : ℕ) → is_name_byte b ≡ true → eqb b c ≡ false) → (n : List ℕ) → IsKeptName n → Lacks c n
name_lacks c other n h =
    lacks_by c is_name_byte other n
    (and_parts (starts_with_letter n && leb (length n) 40) (list_all is_name_byte n) (kept_form n h)).1

pub name_lacks_hash : (n : List ℕ) → IsKeptName n → Lacks 35 n
name_lacks_hash = name_lacks 35 (λ b h. grind (arith, nat_tests))

pub name_lacks_point : (n : List ℕ) → IsKeptName n → Lacks 46 n
name_lacks_point = name_lacks 46 (λ b h. grind (arith, nat_tests))

pub name_lacks_quote : (n : List ℕ) → IsKeptName n → Lacks 34 n
name_lacks_quote = name_lacks 34 (λ b h. grind (arith, nat_tests))

-- A word in front of such a byte is another than the whole.
pub front_is_other : (w rest : List ℕ) (c : ℕ) → bytes_eq w (w ++ c ∷ rest) ≡ false
front_is_other [] rest c = refl
front_is_other (b ∷ w) rest c =
    ap (λ t. t && bytes_eq w (w ++ c ∷ rest)) (number_itself b) ∙ front_is_other w rest c

place_none : (c : ℕ) (w : List ℕ) → Lacks c w → position_or_len (λ b. eqb b c) w ≡ length w
place_none c [] h = refl
place_none c (x ∷ w) h =
    ap (λ t. cond (not t) (1 + prefix_len (λ b. not (eqb b c)) w) 0) h.0
    ∙ ap (λ k. 1 + k) (place_none c w h.1) ∙ omega arith

-- a word without it stands before it whole
pub before_none : (c : ℕ) (w : List ℕ) → Lacks c w → before_first (λ b. eqb b c) w ≡ w
before_none c w h = ap (λ k. take k w) (place_none c w h) ∙ take_whole w (length w) (omega arith)

-- a number within a range of the format is one of 64 bits
pub wide : (n most : ℕ) → n ≤ most → most ≤ 1024 → n < 2 ^ 64
wide n most h k = omega (arith, h, k)

-- numbers of 64 bits
pub sized_64 : (n : ℕ) → n < 2 ^ 64 → sized 64 (decimal n) ≡ Some (Within n)
unfolding sized number_of
sized_64 n fits =
    let value = digits_value-decimal decimal_digits n fits in
    let small : ltb n (2 ^ 64) ≡ true = lt-ltb n (2 ^ 64) fits in
    rw (number_back n fits, value, small) refl

-- Words with a blank before each.

abbrev pub spaced : List (List ℕ) → List ℕ
spaced [] = []
spaced (w ∷ ws) = 32 ∷ (w ++ spaced ws)

pub spaced_both : (vs ws : List (List ℕ)) → spaced (vs ++ ws) ≡ spaced vs ++ spaced ws
spaced_both [] ws = refl
spaced_both (v ∷ vs) ws =
    ap (λ l. 32 ∷ (v ++ l)) (spaced_both vs ws) ∙ ap (λ l. 32 ∷ l) (sym (append_assoc v (spaced vs) (spaced ws)))

pub words_back : (w : List ℕ) (ws : List (List ℕ)) → Lacks 32 w → AllByRecursion (Lacks 32) ws
    → words_of (w ++ spaced ws) ≡ w ∷ ws
words_back w [] free all = ap (λ l. words_of l) (append-nil w) ∙ split_whole 32 w free
words_back w (v ∷ ws) free all =
    split_here 32 w (v ++ spaced ws) free ∙ ap (λ l. w ∷ l) (words_back v ws all.0 all.1)

pub spaced_lacks_feed : (ws : List (List ℕ)) → AllByRecursion (Lacks 10) ws → Lacks 10 (spaced ws)
spaced_lacks_feed [] all = tt
spaced_lacks_feed (w ∷ ws) all = (refl, lacks_append 10 w (spaced ws) all.0 (spaced_lacks_feed ws all.1))
