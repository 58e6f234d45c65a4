-- Pieces of a canonical text that are UTF-8.
use Rattle.std.proofs.Common.{◌≡◌, ◌<◌, ◌≤◌, ◌+◌, ◌/◌, ◌%◌, ℕ, zero, suc, Bool, true, false, ltb, leb}
use Rattle.std.proofs.Common.{if◌then◌else◌, List, [], ◌∷◌, ◌++◌, get_or, map, flat_map, codes, decimal, Some}
use Rattle.std.proofs.Common.{IsUtf8, refl, arith}
use Rattle.std.specs.List.{list_all}
use Rattle.std.proofs.lemmas.Bool.{ltb-true, and_parts}
use Rattle.std.proofs.lemmas.Bool.Decides.{nat_tests}
use Rattle.std.proofs.lemmas.Fmt.{IsAscii-decimal}
use Rattle.std.proofs.lemmas.Str.{IsUtf8-append, IsUtf8-from_ascii, IsUtf8-from_is_utf8, IsUtf8-nil}
use Rattle.base_types.specs.Name.{is_name_byte}
use Rattle.calendars.specs.Dates.{IsDay, days_in_month, last_day}
use Rattle.syntax.specs.Quotes.{escaped, quoted_text}
use Rattle.syntax.proofs.Escapes.{escaped_utf8}
use Rattle.composer_lexer.specs.Tokens.{is_word_byte}
use Rattle.composer_parser.specs.declared.Lined.{Lined}
use Rattle.composer_print.specs.Days.{two_digits, time_text, date_text, date_of_day, date_after, written_date}
use Rattle.composer_print.specs.Streams.{items}
use Rattle.composer_print.specs.Texts.{lead, texts_from}
use Rattle.composer_print.proofs.Dates.{after_stands, late_year}
use Rattle.composer_print.proofs.Spelling.{short_month}
use Rattle.composer_laws.specs.Written.{Each, IsList, IsWord, IsText, IsName, IsNumber, IsTime}
use Rattle.composer_laws.proofs.Cuts.{ascii_word}
use Rattle.composer_laws.proofs.Words.{all_follow, name_byte, free_parts}

-- bytes that are characters
pub record AreChars (w : List ℕ) : Type 0 where
  pub utf8 : IsUtf8 w

pub no_chars : AreChars []
no_chars = record { utf8 = IsUtf8-nil }

pub join : {a b : List ℕ} → AreChars a → AreChars b → AreChars (a ++ b)
join {a = a} {b = b} x y = record { utf8 = IsUtf8-append a b x.utf8 y.utf8 }

pub choose : {a b : List ℕ} (t : Bool) → AreChars a → AreChars b → AreChars (if t then a else b)
choose true x y = x
choose false x y = y

-- words
abbrev pub is_small : ℕ → Bool
is_small b = ltb b 128

small_at : (w : List ℕ) → list_all is_small w ≡ true → (i : ℕ) → get_or w i 0 < 128
small_at [] h i = omega arith
small_at (b ∷ w) h zero = ltb-true b 128 (and_parts (is_small b) (list_all is_small w) h).0
small_at (b ∷ w) h (suc i) = small_at w (and_parts (is_small b) (list_all is_small w) h).1 i

pub plain : (w : List ℕ) → list_all is_small w ≡ true → AreChars w
plain w h = record { utf8 = IsUtf8-from_ascii w (small_at w h) }

pub word_chars : (w : List ℕ) → IsWord w → AreChars w
word_chars w h = record { utf8 = IsUtf8-from_ascii w (ascii_word w h.bytes) }

pub name_chars : (n : List ℕ) → IsName n → AreChars n
name_chars n h = record {
  utf8 = IsUtf8-from_ascii n (ascii_word n (all_follow is_name_byte is_word_byte name_byte n (free_parts n h.free).2));
}

pub quoted_chars : (v : List ℕ) → IsText v → AreChars (quoted_text v)
unfolding quoted_text
quoted_chars v h =
    let within : AreChars (flat_map escaped v) = record { utf8 = escaped_utf8 [] v (IsUtf8-from_is_utf8 v h.utf8) } in
    join (join (plain (34 ∷ []) refl) within) (plain (34 ∷ []) refl)

-- numbers, times and dates
pub number_chars : (n : ℕ) → IsNumber n → AreChars (decimal n)
number_chars n h = record { utf8 = IsUtf8-from_ascii (decimal n) (IsAscii-decimal n (omega (arith, h))) }

two_chars : (n : ℕ) → n < 100 → AreChars (two_digits n)
two_chars n h =
    let a : is_small (48 + n / 10) ≡ true = grind (arith, nat_tests) in
    let b : is_small (48 + n % 10) ≡ true = grind (arith, nat_tests) in
    plain (two_digits n) (rw (a, b) refl)

pub time_chars : (t : ℕ) → IsTime t → AreChars (time_text t)
unfolding time_text
time_chars t h =
    let early : ltb t 1440 ≡ true = grind (arith, nat_tests) in
    rw early (join (two_chars (t / 60) (omega (arith, h))) (two_chars (t % 60) (omega arith)))

written_chars : (y m d : ℕ) → y < 10000 → m < 100 → d < 100 → AreChars (written_date (Some (y, m, d)))
written_chars y m d a b c =
    let slash = plain (codes "/") refl in
    join
    (join (join (join (join (two_chars m b) slash) (two_chars d c)) slash) (two_chars (y / 100) (omega (arith, a))))
    (two_chars (y % 100) (omega arith))

pub date_chars : (day : ℕ) → IsDay day → AreChars (date_text day)
unfolding date_text date_of_day
date_chars day h =
    let early : leb day last_day ≡ true = grind (arith, nat_tests) in
    let d = date_after day in
    let stands = after_stands day in
    let late = late_year day h in
    let days : days_in_month d.0 d.1 ≤ 31 = short_month d.0 d.1 in
    rw early (written_chars d.0 d.1 d.2 (omega (arith, late)) (omega (arith, stands.0.2))
    (omega (arith, stands.0.4, days)))

-- lists
pub each_chars : {A : Type 0} (P : A → Type 0) (f : A → List ℕ) → ((x : A) → P x → AreChars (f x)) → (xs : List A)
    → Each P xs → AreChars (flat_map f xs)
each_chars P f one [] h = no_chars
each_chars P f one (x ∷ xs) h = join (one x h.0) (each_chars P f one xs h.1)

pub lined_chars : {A : Type 0} (P : A → Type 0) (f : A → List ℕ) → ((x : A) → P x → AreChars (f x))
    → (xs : List (Lined A))
    → Each P (items xs) → AreChars (flat_map (λ x. f x.item) xs)
lined_chars P f one [] h = no_chars
lined_chars P f one (x ∷ xs) h = join (one x.item h.0) (lined_chars P f one xs h.1)

pub texts_chars : (separator beginning : List ℕ) → AreChars separator → AreChars beginning
    → (begun : Bool) (xs : List (List ℕ))
    → Each AreChars xs → AreChars (texts_from separator beginning begun xs)
texts_chars s b us ub begun [] h = no_chars
texts_chars s b us ub begun (x ∷ xs) h =
    join (join (led begun) h.0) (texts_chars s b us ub true xs h.1)
  where
    led : (t : Bool) → AreChars (lead s b t)
    led true = us
    led false = ub

mapped_chars : {A : Type 0} (P : A → Type 0) (f : A → List ℕ) → ((x : A) → P x → AreChars (f x)) → (xs : List A)
    → Each P xs → Each AreChars (map f xs)
mapped_chars P f one [] h = tt
mapped_chars P f one (x ∷ xs) h = (one x h.0, mapped_chars P f one xs h.1)

pub list_chars : {A : Type 0} (P : A → Type 0) (f : A → List ℕ) → ((x : A) → P x → AreChars (f x))
    → (beginning : List ℕ)
    → AreChars beginning → (xs : List A) → IsList P xs → AreChars (texts_from (codes ", ") beginning false (map f xs))
list_chars P f one b ub [] h = no_chars
list_chars P f one b ub (x ∷ xs) h =
    texts_chars (codes ", ") b (plain (codes ", ") refl) ub false (map f (x ∷ xs)) (mapped_chars P f one (x ∷ xs) h)
