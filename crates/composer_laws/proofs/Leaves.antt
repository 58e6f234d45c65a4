-- What is known of the values of single tokens.
use Rattle.std.proofs.Common.{◌≡◌, ◌<◌, ◌+◌, ◌-◌, ◌*◌, ◌^◌, ◌&&◌, ◌||◌, not, cond, ℕ, Bool, true, false, List, [], ◌∷◌, ◌++◌, length, drop, map, get_or, codes, eqb, leb, ltb}
use Rattle.std.proofs.Common.{Option, Some, None, is_some, refl, ap, sym, subst, ◌∙◌, arith}
use Rattle.std.specs.Char.{is_ascii_digit, to_ascii_uppercase, to_ascii_lowercase}
use Rattle.std.specs.List.{list_all, list_any, position_or_len}
use Rattle.std.specs.Option.{option_map_or}
use Rattle.std.specs.Str.{bytes_eq}
use Rattle.std.specs.Str.Parse.{digits_value}
use Rattle.std.specs.Cmp.Lexicographic.{bytes_decides}
use Rattle.std.proofs.lemmas.List.{length-map}
use Rattle.std.proofs.lemmas.Bool.Decides.{nat_tests}
use Rattle.std.proofs.lemmas.List.Sums.{split_at_first, passes_at_first}
use Rattle.std.proofs.lemmas.Str.Ascii.{uppercase-uppercase, lowercase-uppercase}
use Rattle.calendars.specs.Dates.{IsDay}
use Rattle.calendars.specs.Written.{date_of}
use Rattle.calendars.proofs.Days.{date_there}
use Rattle.base_types.specs.Name.{is_name_of, is_name_byte, starts_with_letter}
use Rattle.composer_lexer.specs.Tokens.{is_word_byte}
use Rattle.composer_parser.specs.declared.clauses.PredPart.TheVariants as part
use Rattle.composer_parser.specs.Rules.{is_rule}
use Rattle.composer_parser.specs.Words.{lower, holds, before, behind}
use Rattle.composer_parser.specs.Kinds.{Kind, Shape, word, quoted, mark, Spelled, is, a_name, a_text, a_value, a_word, a_number, a_time, a_date, a_plus, an_offset, a_placed, a_scoped, a_pred, a_rule, is_free_name, is_reserved, reserved_words, is_placed, is_scoped, is_pred, is_time, is_date, two_digits}
use Rattle.composer_parser.specs.Grammars.{one}
use Rattle.composer_parser.specs.Parts.{bytes_of, upper, capped, minutes, day_of, name, upper_word, value, text, number, time, date, plus, signed, ws_of, own_of, pred, pred_of, part_of}
use Rattle.composer_laws.specs.Written.{IsWord, IsText, IsName, IsNumber, IsTime, WhenGiven, IsPart, IsPred, is_no_feed}
use Rattle.composer_laws.proofs.Words.{all_follow, free_parts, name_parts, all_both}
use Rattle.composer_laws.proofs.Scopes.{holds_not, other_than, no_hash, no_dot, no_at}
use Rattle.std.proofs.lemmas.Str.{IsUtf8-from_ascii, is_utf8-from_IsUtf8}
use Rattle.lemmas.proofs.Booleans.{and_made, and_parts, three_true}
use Rattle.syntax.proofs.Digits.{name_byte_upper}
use Rattle.composer_laws.proofs.Cuts.{ascii_word}
use Rattle.composer_laws.proofs.Good.{Good}
use Rattle.composer_laws.proofs.Keeps.{Keeps, kept_one}

-- upper case
lower_upper : (w : List ℕ) → map to_ascii_lowercase (map to_ascii_uppercase w) ≡ map to_ascii_lowercase w
lower_upper [] = refl
lower_upper (b ∷ w) = λ i. lowercase-uppercase b i ∷ lower_upper w i

pub upper_upper : (w : List ℕ) → upper (upper w) ≡ upper w
upper_upper [] = refl
upper_upper (b ∷ w) = λ i. uppercase-uppercase b i ∷ upper_upper w i

upper_letter : (w : List ℕ) → starts_with_letter w ≡ true → starts_with_letter (upper w) ≡ true
upper_letter [] h = h
upper_letter (b ∷ w) h = grind (arith, nat_tests)

upper_all : (p : ℕ → Bool) → ((b : ℕ) → p b ≡ true → p (to_ascii_uppercase b) ≡ true) → (w : List ℕ) → list_all p w ≡ true
    → list_all p (upper w) ≡ true
upper_all p h [] e = refl
upper_all p h (b ∷ w) e =
    let parts = and_parts (p b) (list_all p w) e in
    and_made (p (to_ascii_uppercase b)) (list_all p (upper w)) (h b parts.0) (upper_all p h w parts.1)

word_byte_upper : (b : ℕ) → is_word_byte b ≡ true → is_word_byte (to_ascii_uppercase b) ≡ true
word_byte_upper b h = grind (arith, nat_tests)

reserved_upper : (w : List ℕ) → is_reserved (upper w) ≡ is_reserved w
unfolding is_reserved
reserved_upper w = ap (λ l. list_any (λ k. bytes_eq l (lower k)) reserved_words) (lower_upper w)

pub upper_name : (w : List ℕ) → is_free_name w ≡ true → IsName (upper w)
upper_name w h =
    let free = and_parts (is_name_of w) (not (is_reserved w)) h in
    let parts = name_parts w free.0 in
    let same : length (upper w) ≡ length w = length-map w to_ascii_uppercase in
    let short : leb (length (upper w)) 40 ≡ true = let small = parts.1 in grind (arith, nat_tests) in
    let name : is_name_of (upper w) ≡ true =
    three_true (starts_with_letter (upper w)) (leb (length (upper w)) 40) (list_all is_name_byte (upper w)) (upper_letter w parts.0) short
    (upper_all is_name_byte name_byte_upper w parts.2) in
    record {
      free = and_made (is_name_of (upper w)) (not (is_reserved (upper w))) name (ap not (reserved_upper w) ∙ free.1);
      high = upper_upper w;
    }

pub upper_word_is : (w : List ℕ) → IsWord w → IsWord (upper w)
upper_word_is w h =
    let same : length (upper w) ≡ length w = length-map w to_ascii_uppercase in
    let some = h.some in
    let room = h.room in
    record {
      bytes = upper_all is_word_byte word_byte_upper w h.bytes;
      some = omega (arith, same, some);
      room = omega (arith, same, room);
    }

-- a word of a kind
of_word : (k : Kind) (t : Spelled) (P : Shape → Type 0) → ((w : List ℕ) → IsWord w → is k (record { line = t.line; shape = word w }) ≡ true → P (word w))
    → ((v : List ℕ) → IsText v → is k (record { line = t.line; shape = quoted v }) ≡ true → P (quoted v))
    → ((c : ℕ) → is k (record { line = t.line; shape = mark c }) ≡ true → P (mark c)) → Good t → is k t ≡ true → P t.shape
of_word k t P w q m good ok = by_shape t.shape good ok
  where
    by_shape : (s : Shape) → Good (record { line = t.line; shape = s }) → is k (record { line = t.line; shape = s }) ≡ true → P s
    by_shape (word x) g e = w x g e
    by_shape (quoted x) g e = q x g e
    by_shape (mark c) g e = m c e

pub kept_name : Keeps name (λ n. IsName n)
kept_name =
    kept_one a_name _ (λ t good ok.
    of_word a_name t (λ s. IsName (upper (bytes_of s))) (λ w g e. upper_name w e) (λ v g e. cc) (λ c e. cc) good ok)

pub kept_name_token : Keeps (one a_name (λ t. t)) (λ t. IsName (upper (bytes_of t.shape)))
kept_name_token =
    kept_one a_name _ (λ t good ok.
    of_word a_name t (λ s. IsName (upper (bytes_of s))) (λ w g e. upper_name w e) (λ v g e. cc) (λ c e. cc) good ok)

pub kept_word : Keeps upper_word (λ w. IsWord w × (upper w ≡ w))
kept_word =
    kept_one a_word _ (λ t good ok.
    of_word a_word t (λ s. IsWord (upper (bytes_of s)) × (upper (upper (bytes_of s)) ≡ upper (bytes_of s)))
    (λ w g e. (upper_word_is w g, upper_upper w)) (λ v g e. cc) (λ c e. cc) good ok)

pub kept_text : Keeps text (λ v. IsText v)
kept_text =
    kept_one a_text _ (λ t good ok.
    of_word a_text t (λ s. IsText (bytes_of s)) (λ w g e. cc) (λ v g e. g) (λ c e. cc) good ok)

-- a number
capped_by : (v : ℕ) (b : Bool) → ltb v (2 ^ 32) ≡ b → cond b v (2 ^ 32 - 1) < 2 ^ 32
capped_by v true e = grind (arith, nat_tests)
capped_by v false e = omega arith

pub capped_is : (w : List ℕ) → IsNumber (capped w)
capped_is w = capped_by (digits_value 10 w) (ltb (digits_value 10 w) (2 ^ 32)) refl

pub kept_number : Keeps number (λ n. IsNumber n)
kept_number = kept_one a_number _ (λ t good ok. capped_is (bytes_of t.shape))

pub kept_plus : Keeps plus (λ n. IsNumber n)
kept_plus = kept_one a_plus _ (λ t good ok. capped_is (drop 1 (bytes_of t.shape)))

pub kept_signed : Keeps signed (λ x. IsNumber x.1)
kept_signed = kept_one an_offset _ (λ t good ok. capped_is (drop 1 (bytes_of t.shape)))

-- a time
early : (w : List ℕ) → is_time w ≡ true → minutes w < 1440
unfolding is_time
early w h =
    let first = and_parts (eqb (length w) 4) _ h in
    let second = and_parts (list_all is_ascii_digit w) _ first.1 in
    let third = and_parts (ltb (two_digits (get_or w 0 0) (get_or w 1 0)) 24) (ltb (two_digits (get_or w 2 0) (get_or w 3 0)) 60) second.1 in
    by_parts (two_digits (get_or w 0 0) (get_or w 1 0)) (two_digits (get_or w 2 0) (get_or w 3 0)) third.0 third.1
  where
    by_parts : (a b : ℕ) → ltb a 24 ≡ true → ltb b 60 ≡ true → 60 * a + b < 1440
    by_parts a b p q =
        let x : a < 24 = grind (arith, nat_tests) in let y : b < 60 = grind (arith, nat_tests) in omega (arith, x, y)

pub kept_time : Keeps time (λ t. IsTime t)
kept_time =
    kept_one a_time _ (λ t good ok.
    of_word a_time t (λ s. IsTime (minutes (bytes_of s))) (λ w g e. early w e) (λ v g e. cc) (λ c e. cc) good ok)

-- a date
day_is : (w : List ℕ) → is_date w ≡ true → IsDay (day_of w)
unfolding is_date day_of
day_is w h = by_date (date_of w) refl h
  where
    by_date : (o : Option ℕ) → date_of w ≡ o → is_some o ≡ true → IsDay (option_map_or (λ d. d) o 0)
    by_date None e k = cc
    by_date (Some n) e k = date_there w n e

pub kept_date : Keeps date (λ d. IsDay d)
kept_date =
    kept_one a_date _ (λ t good ok.
    of_word a_date t (λ s. IsDay (day_of (bytes_of s))) (λ w g e. day_is w e) (λ v g e. cc) (λ c e. cc) good ok)

-- names with their workstations
free_holds : (c : ℕ) (w : List ℕ) → ((b : ℕ) → is_name_byte b ≡ true → other_than c b ≡ true) → is_free_name w ≡ true
    → list_all (other_than c) w ≡ true
free_holds c w h free = all_follow is_name_byte (other_than c) h w (free_parts w free).2

abbrev pub IsScoped : List ℕ → Type 0
IsScoped w = WhenGiven IsName (ws_of w) × IsName (own_of w)

placed_parts : (w : List ℕ) → is_placed w ≡ true
    → (holds 35 w ≡ true) × (is_free_name (before 35 w) ≡ true) × (is_free_name (behind 35 w) ≡ true)
unfolding is_placed
placed_parts w h =
    let first = and_parts (holds 35 w) _ h in
    let second = and_parts (is_free_name (before 35 w)) (is_free_name (behind 35 w)) first.1 in
    (first.0, second.0, second.1)

pub scoped_is : (w : List ℕ) → is_scoped w ≡ true → IsScoped w
unfolding is_scoped ws_of own_of
scoped_is w h = by_name (is_free_name w) refl h
  where
    by_name : (b : Bool) → is_free_name w ≡ b → (b || is_placed w) ≡ true
        → WhenGiven IsName (cond (holds 35 w) (Some (upper (before 35 w))) None) × IsName (cond (holds 35 w) (upper (behind 35 w)) (upper w))
    by_name true e k =
        let without = holds_not 35 w (free_holds 35 w no_hash e) in rw without (tt, upper_name w e)
    by_name false e k =
        let parts = placed_parts w k in
        rw parts.0 (upper_name (before 35 w) parts.1, upper_name (behind 35 w) parts.2)

pub placed_is : (w : List ℕ) → is_placed w ≡ true → IsName (upper (before 35 w)) × IsName (own_of w)
unfolding own_of
placed_is w h =
    let parts = placed_parts w h in
    rw parts.0 (upper_name (before 35 w) parts.1, upper_name (behind 35 w) parts.2)

pub kept_scoped : Keeps (one a_scoped (λ t. bytes_of t.shape)) (λ w. IsScoped w)
kept_scoped =
    kept_one a_scoped _ (λ t good ok.
    of_word a_scoped t (λ s. IsScoped (bytes_of s)) (λ w g e. scoped_is w e) (λ v g e. cc) (λ c e. cc) good ok)

pub kept_scoped_token : Keeps (one a_scoped (λ t. t)) (λ t. IsScoped (bytes_of t.shape))
kept_scoped_token =
    kept_one a_scoped _ (λ t good ok.
    of_word a_scoped t (λ s. IsScoped (bytes_of s)) (λ w g e. scoped_is w e) (λ v g e. cc) (λ c e. cc) good ok)

pub kept_placed_token : Keeps (one a_placed (λ t. t)) (λ t. IsName (upper (before 35 (bytes_of t.shape))) × IsName (own_of (bytes_of t.shape)))
kept_placed_token =
    kept_one a_placed _ (λ t good ok.
    of_word a_placed t (λ s. IsName (upper (before 35 (bytes_of s))) × IsName (own_of (bytes_of s))) (λ w g e. placed_is w e) (λ v g e. cc) (λ c e. cc) good ok)

-- what is followed
hash_dotless : (b : ℕ) → eqb b 35 ≡ true → other_than 46 b ≡ true
hash_dotless b h = grind (arith, nat_tests)

scoped_dotless : (w : List ℕ) → is_scoped w ≡ true → list_all (other_than 46) w ≡ true
unfolding is_scoped
scoped_dotless w h = by_name (is_free_name w) refl h
  where
    by_name : (b : Bool) → is_free_name w ≡ b → (b || is_placed w) ≡ true → list_all (other_than 46) w ≡ true
    by_name true e k = free_holds 46 w no_dot e
    by_name false e k =
        let parts = placed_parts w k in
        let pos = position_or_len (λ b. eqb b 35) w in
        let within : pos < length w = let some = parts.0 in grind (arith, nat_tests) in
        let cut = split_at_first (λ b. eqb b 35) w 0 within in
        let mark = passes_at_first (λ b. eqb b 35) w 0 within in
        let left = free_holds 46 (before 35 w) no_dot parts.1 in
        let right = free_holds 46 (behind 35 w) no_dot parts.2 in
        let all : list_all (other_than 46) (before 35 w ++ (get_or w pos 0 ∷ behind 35 w)) ≡ true =
        all_both (other_than 46) (before 35 w) (get_or w pos 0 ∷ behind 35 w) left
        (and_made (other_than 46 (get_or w pos 0)) (list_all (other_than 46) (behind 35 w)) (hash_dotless (get_or w pos 0) mark) right) in
        subst (λ (xs : List ℕ). list_all (other_than 46) xs ≡ true) (sym cut) all

part_is : (w : List ℕ) → (bytes_eq w (codes "@") || is_free_name w) ≡ true → IsPart (part_of w)
part_is w h = by_mark (bytes_eq w (codes "@")) refl h
  where
    by_mark : (b : Bool) → bytes_eq w (codes "@") ≡ b → (b || is_free_name w) ≡ true → IsPart (part_of w)
    by_mark true e k =
        let same : w ≡ codes "@" = (bytes_decides w (codes "@")).0 e in
        subst (λ (x : List ℕ). IsPart (part_of x)) (sym same) tt
    by_mark false e k = let letter = no_at w (free_parts w k).0 in rw letter (upper_name w k)

pred_is : (w : List ℕ) → is_pred w ≡ true → IsPred (pred_of w)
unfolding is_pred pred_of
pred_is w h = by_dot (holds 46 w) refl
  where
    by_dot : (b : Bool) → holds 46 w ≡ b
        → IsPred (cond b (record { ws = ws_of (before 46 w); name = own_of (before 46 w); part = part_of (behind 46 w) })
        (record { ws = ws_of w; name = own_of w; part = part.Plain }))
    by_dot true e = by_scoped (is_scoped w) refl (rw e at h)
      where
        by_scoped : (s : Bool) → is_scoped w ≡ s
            → (s || (true && (is_scoped (before 46 w) && (bytes_eq (behind 46 w) (codes "@") || is_free_name (behind 46 w))))) ≡ true
            → IsPred (record { ws = ws_of (before 46 w); name = own_of (before 46 w); part = part_of (behind 46 w) })
        by_scoped true k all =
            let no : true ≡ false = sym e ∙ holds_not 46 w (scoped_dotless w k) in cc
        by_scoped false k all =
            let parts = and_parts (is_scoped (before 46 w)) _ all in
            let scoped = scoped_is (before 46 w) parts.0 in
            record { ws = scoped.0; name = scoped.1; part = part_is (behind 46 w) parts.1 }
    by_dot false e =
        let scoped = scoped_is w (plain (is_scoped w) (rw e at h)) in record { ws = scoped.0; name = scoped.1; part = tt }
      where
        plain : (s : Bool) → (s || (false && (is_scoped (before 46 w) && (bytes_eq (behind 46 w) (codes "@") || is_free_name (behind 46 w))))) ≡ true → s ≡ true
        plain true k = refl
        plain false k = cc

pub kept_pred : Keeps pred (λ p. IsPred p)
kept_pred =
    kept_one a_pred _ (λ t good ok.
    of_word a_pred t (λ s. IsPred (pred_of (bytes_of s))) (λ w g e. pred_is w e) (λ v g e. cc) (λ c e. cc) good ok)

-- a word is a text
no_feed_byte : (b : ℕ) → is_word_byte b ≡ true → is_no_feed b ≡ true
no_feed_byte b h = grind (arith, nat_tests)

word_text : (w : List ℕ) → IsWord w → IsText w
word_text w h =
    record {
      utf8 = is_utf8-from_IsUtf8 w (IsUtf8-from_ascii w (ascii_word w h.bytes));
      room = h.room;
      line = all_follow is_word_byte is_no_feed no_feed_byte w h.bytes;
    }

pub kept_value : Keeps value (λ v. IsText v)
kept_value =
    kept_one a_value _ (λ t good ok.
    of_word a_value t (λ s. IsText (bytes_of s)) (λ w g e. word_text w g) (λ v g e. g) (λ c e. cc) good ok)

pub of_rule : (t : Spelled) → Good t → is a_rule t ≡ true → IsText (bytes_of t.shape) × (is_rule (bytes_of t.shape) ≡ true)
of_rule t good ok =
    of_word a_rule t (λ s. IsText (bytes_of s) × (is_rule (bytes_of s) ≡ true)) (λ w g e. cc) (λ v g e. (g, e)) (λ c e. cc) good ok
