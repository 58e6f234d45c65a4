-- The lines of entries and starts, and the rows that they are read to.
use Rattle.std.proofs.Common.{◌≡◌, ◌<◌, ◌+◌, ◌/◌, ◌%◌, ◌^◌, ℕ, Bool, true, false, ◌||◌, eqb, ltb, List, [], ◌∷◌, ◌++◌, length}
use Rattle.std.proofs.Common.{Option, Some, option_map, codes, refl, ap, ◌∙◌, arith, append_assoc}
use Rattle.std.proofs.Common.{if◌then◌else◌, decimal}
use Rattle.std.specs.Prelude.{unwrap_or}
use Rattle.std.proofs.lemmas.Bool.{ne_eqb, lt-ltb}
use Rattle.std.proofs.lemmas.Fmt.{digits_value-decimal}
use Rattle.lemmas.proofs.Texts.{decimal_digits}
use Rattle.lemmas.proofs.Numbers.{suc_not_zero}
use Rattle.composer_print.proofs.Spelling.{number_back}
use Rattle.model.specs.Fit.{IsFit}
use Rattle.model.specs.Ranges.{InRange}
use Rattle.model.specs.Spelling.{entry_bytes}
use Rattle.model.specs.Types.{Entry}
use Rattle.syntax.specs.Numbers.{number_of}
use Rattle.syntax.specs.Splits.{after_word, first_word, words_of}
use Rattle.record_rows.specs.Rows.{is_skipped}
use Rattle.record_rows.specs.Words.{sized}
use Rattle.record_rows.specs.declared.rows.Ranged.TheVariants.{Within}
use Rattle.history_script.specs.Digits.{digit, digits_of}
use Rattle.history_script.specs.Rows.{form_of, row_of, start_row}
use Rattle.history_script.specs.declared.rows.HistoryRow.{HistoryRow}
use Rattle.history_script.specs.declared.rows.HistoryRow.TheVariants as row
use Rattle.history_script.proofs.Returns.{digits_back}
use Rattle.history_laws.specs.Printables.{IsKeptName}
use Rattle.history_laws.proofs.Lines.{Lacks, lacks_append, split_here, split_whole}
use Rattle.history_laws.proofs.Words.{name_lacks_feed, name_lacks_space, number_lacks_feed, number_lacks_space}
use Rattle.history_laws.proofs.Bytes.{entry_small, entry_some}

-- a row by its first word and what follows it
row_by : (line : List ℕ) (o : Option HistoryRow) → is_skipped line ≡ false
    → form_of (first_word line) (after_word line) ≡ o → row_of line ≡ unwrap_or o row.NoForm
unfolding row_of
row_by line o plain is =
    ap (λ b. if b then row.Skipped else unwrap_or (form_of (first_word line) (after_word line)) row.NoForm) plain
    ∙ ap (λ x. unwrap_or x row.NoForm) is

led : (c : ℕ) (rest : List ℕ) → eqb c 35 ≡ false → is_skipped (c ∷ rest) ≡ false
led c rest is = ap (λ b. b || eqb c 35) (suc_not_zero (length rest)) ∙ is

-- Entries.

abbrev pub entry_words : Entry → List ℕ
entry_words e = codes "entry " ++ digits_of (entry_bytes e)

digit_lacks : (n : ℕ) → eqb (digit n) 10 ≡ false
digit_lacks n = go (ltb n 10)
  where
    go : (b : Bool) → eqb (if b then 48 + n else (87 + n)) 10 ≡ false
    go true = ne_eqb (48 + n) 10 (λ e. absurd (omega (arith, e)))
    go false = ne_eqb (87 + n) 10 (λ e. absurd (omega (arith, e)))

digits_lack : (bytes : List ℕ) → Lacks 10 (digits_of bytes)
unfolding digits_of
digits_lack [] = tt
digits_lack (b ∷ bytes) = (digit_lacks (b / 16), (digit_lacks (b % 16), digits_lack bytes))

pub entry_lacks : (e : Entry) → Lacks 10 (entry_words e)
entry_lacks e =
    lacks_append 10 (codes "entry ") (digits_of (entry_bytes e)) (refl, (refl, (refl, (refl, (refl, (refl, tt))))))
    (digits_lack (entry_bytes e))

pub entry_row_is : (e : Entry) → IsFit e → InRange e → row_of (entry_words e) ≡ row.Entry (entry_bytes e)
entry_row_is e fit in_range =
    row_by (entry_words e) (Some (row.Entry (entry_bytes e))) (led 101 (codes "ntry " ++ digits_of (entry_bytes e)) refl)
    (ap (option_map row.Entry) (digits_back (entry_bytes e) (entry_small e fit in_range) (entry_some e)))

-- Numbers as words.

wide : (n : ℕ) → n < 2 ^ 32 → n < 2 ^ 64
wide n h = omega (arith, h)

sized_back : (n : ℕ) → n < 2 ^ 32 → sized 32 (decimal n) ≡ Some (Within n)
unfolding sized number_of
sized_back n fits =
    let is = number_back n (wide n fits) in
    let value = digits_value-decimal decimal_digits n (wide n fits) in
    let small : ltb n (2 ^ 32) ≡ true = lt-ltb n (2 ^ 32) fits in
    rw (is, value, small) refl

-- Starts.

abbrev pub start_words : List ℕ → ℕ → ℕ → List ℕ
start_words name job number = codes "start " ++ name ++ codes " " ++ decimal job ++ codes " " ++ decimal number

words_are : (name job number : List ℕ) → Lacks 32 name → Lacks 32 job → Lacks 32 number
    → words_of (name ++ codes " " ++ job ++ codes " " ++ number) ≡ name ∷ job ∷ number ∷ []
words_are name job number one two three =
    ap words_of
    (append_assoc (name ++ codes " " ++ job) (codes " ") number
    ∙ ap (λ l. l ++ 32 ∷ number) (append_assoc name (codes " ") job)
    ∙ append_assoc name (32 ∷ job) (32 ∷ number))
    ∙ split_here 32 name (job ++ 32 ∷ number) one
    ∙ ap (λ l. name ∷ l) (split_here 32 job number two ∙ ap (λ l. job ∷ l) (split_whole 32 number three))

start_found : (name : List ℕ) (job number : ℕ) → IsKeptName name → job < 2 ^ 32 → number < 2 ^ 32
    → start_row (name ∷ decimal job ∷ decimal number ∷ []) ≡ Some (row.Start name (Within job) (Within number))
unfolding start_row
start_found name job number kept j n = rw (kept, sized_back job j, sized_back number n) refl

pub start_row_is : (name : List ℕ) (job number : ℕ) → IsKeptName name → job < 2 ^ 32 → number < 2 ^ 32
    → row_of (start_words name job number) ≡ row.Start name (Within job) (Within number)
start_row_is name job number kept j n =
    row_by (start_words name job number) (Some (row.Start name (Within job) (Within number)))
    (led 115 (codes "tart " ++ name ++ codes " " ++ decimal job ++ codes " " ++ decimal number) refl)
    (ap start_row
    (words_are name (decimal job) (decimal number) (name_lacks_space name kept) (number_lacks_space job (wide job j))
    (number_lacks_space number (wide number n)))
    ∙ start_found name job number kept j n)

pub start_lacks : (name : List ℕ) (job number : ℕ) → IsKeptName name → job < 2 ^ 32 → number < 2 ^ 32
    → Lacks 10 (start_words name job number)
start_lacks name job number kept j n =
    lacks_append 10 (codes "start " ++ name ++ codes " " ++ decimal job ++ codes " ") (decimal number)
    (lacks_append 10 (codes "start " ++ name ++ codes " " ++ decimal job) (codes " ")
    (lacks_append 10 (codes "start " ++ name ++ codes " ") (decimal job)
    (lacks_append 10 (codes "start " ++ name) (codes " ")
    (lacks_append 10 (codes "start ") name (refl, (refl, (refl, (refl, (refl, (refl, tt)))))) (name_lacks_feed name kept))
    (refl, tt)) (number_lacks_feed job (wide job j))) (refl, tt)) (number_lacks_feed number (wide number n))
