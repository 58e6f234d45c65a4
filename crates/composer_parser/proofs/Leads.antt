-- With what a word of a kind begins.
use Rattle.std.proofs.Common.{◌≡◌, inl, inr, ◌||◌, ◌&&◌, not, ◌==◌, ℕ, suc, ◌+◌, Bool, true, false, List, [], ◌∷◌, refl, ap, sym, ◌∙◌, arith, take, ltb, cond, length, ◌<◌}
use Rattle.std.specs.Char.{is_ascii_alphabetic, is_ascii_digit, to_ascii_lowercase}
use Rattle.std.specs.List.{list_all, list_any, position_or_len, prefix_len, before_first}
use Rattle.std.specs.Str.{bytes_eq}
use Rattle.std.specs.Str.Parse.{digits_value}
use Rattle.std.proofs.lemmas.Slice.Eq.{bytes_eq-Decides}
use Rattle.std.proofs.lemmas.Bool.Decides.{nat_tests, eqb_tells}
use Rattle.base_types.specs.Name.{is_name_of, starts_with_letter}
use Rattle.syntax.specs.Numbers.{is_number}
use Rattle.std.proofs.Common.{Option, Some, None}
use Rattle.std.specs.Option.{is_some}
use Rattle.lemmas.proofs.Booleans.{and_parts}
use Rattle.calendars.specs.Written.{date_of, digits_of, before_slash}
use Rattle.composer_parser.specs.Words.{lower, holds, before, behind}
use Rattle.composer_parser.specs.Kinds.{is_reserved, reserved_words, is}
use Rattle.composer_parser.specs.Kinds.{is_date}
use Rattle.composer_parser.specs.Kinds.{is_free_name, is_placed, is_scoped, is_pred, is_time}
use Rattle.composer_parser.specs.Kinds.{is_plus, is_minus, is_offset}
use Rattle.composer_parser.specs.Groups.{letter, digit, sign, lead, lead_of, same_lead}
use Rattle.composer_parser.specs.Groups.{names, word_in}

-- with what a word in lower case begins
lower_letter : (c : ℕ) → is_ascii_alphabetic c ≡ true → same_lead letter (lead_of (to_ascii_lowercase c)) ≡ true
lower_letter c h = rw (still c h) refl
  where
    still : (d : ℕ) → is_ascii_alphabetic d ≡ true → is_ascii_alphabetic (to_ascii_lowercase d) ≡ true
    still d h2 = grind (arith, nat_tests)

lower_digit : (c : ℕ) → is_ascii_digit c ≡ true → same_lead digit (lead_of (to_ascii_lowercase c)) ≡ true
lower_digit c h = rw (no_letter c h, still c h) refl
  where
    no_letter : (d : ℕ) → is_ascii_digit d ≡ true → is_ascii_alphabetic (to_ascii_lowercase d) ≡ false
    no_letter d h2 = grind (arith, nat_tests)

    still : (d : ℕ) → is_ascii_digit d ≡ true → is_ascii_digit (to_ascii_lowercase d) ≡ true
    still d h2 = grind (arith, nat_tests)

starts_lower : (w : List ℕ) → starts_with_letter w ≡ true → same_lead letter (lead (lower w)) ≡ true
starts_lower [] h = cc
starts_lower (c ∷ w) h = lower_letter c h

first_of_three : (a b c : Bool) → (a && b && c) ≡ true → a ≡ true
first_of_three true b c h = refl
first_of_three false b c h = cc

name_starts : (w : List ℕ) → is_free_name w ≡ true → starts_with_letter w ≡ true
name_starts w h =
    first_of_three (starts_with_letter w) _ _ (and_parts (is_name_of w) (not (is_reserved w)) h).0

name_free : (w : List ℕ) → is_free_name w ≡ true → not (is_reserved w) ≡ true
name_free w h = (and_parts (is_name_of w) (not (is_reserved w)) h).1

pub name_in : (w : List ℕ) → is_free_name w ≡ true → word_in names w ≡ true
name_in w h = rw (name_free w h, starts_lower w (name_starts w h)) refl

-- what stands before a mark begins like the whole
starts_before : (p : ℕ → Bool) (w : List ℕ) → starts_with_letter (before_first p w) ≡ true
    → starts_with_letter w ≡ true
starts_before p [] h = h
starts_before p (c ∷ w) h = by_mark (p c) refl
  where
    one_more : (n : ℕ) → take (1 + n) (c ∷ w) ≡ c ∷ take n w
    one_more n = let e : 1 + n ≡ suc n = omega arith in rw e refl

    by_mark : (b : Bool) → p c ≡ b → is_ascii_alphabetic c ≡ true
    by_mark true e = let none : starts_with_letter (before_first p (c ∷ w)) ≡ false = rw e refl in cc
    by_mark false e =
        let some : starts_with_letter (before_first p (c ∷ w)) ≡ is_ascii_alphabetic c =
        rw (e, one_more (prefix_len (λ x. not (p x)) w)) refl in
        sym some ∙ h

-- a mark that no reserved word has
abbrev no_mark : ℕ → List (List ℕ) → Bool
no_mark c ks = list_all (λ k. not (list_any (λ b. b == c) (lower k))) ks

holds_rest : (n m : ℕ) → ltb (1 + n) (suc m) ≡ true → ltb n m ≡ true
holds_rest n m h = grind (arith, nat_tests)

holds_any : (c : ℕ) (w : List ℕ) → holds c w ≡ true → list_any (λ b. b == c) w ≡ true
holds_any c [] h = h
holds_any c (d ∷ w) h = by_first (d == c) refl (λ k. holds_any c w k)
  where
    by_first : (b : Bool) → (d == c) ≡ b → (holds c w ≡ true → list_any (λ x. x == c) w ≡ true)
        → ((d == c) || list_any (λ x. x == c) w) ≡ true
    by_first true e rec = rw e refl
    by_first false e rec =
        let later : ltb (1 + position_or_len (λ b. b == c) w) (suc (length w)) ≡ true = rw e at h in
        rw e (rec (holds_rest (position_or_len (λ b. b == c) w) (length w) later))

any_lower : (c : ℕ) (w : List ℕ) → is_ascii_alphabetic c ≡ false → list_any (λ b. b == c) w ≡ true
    → list_any (λ b. b == c) (lower w) ≡ true
any_lower c [] none h = h
any_lower c (d ∷ w) none h = by_first (d == c) refl (λ k. any_lower c w none k)
  where
    still : (x y : ℕ) → is_ascii_alphabetic y ≡ false → (x == y) ≡ true → (to_ascii_lowercase x == y) ≡ true
    still x y h2 e = grind (arith, nat_tests)

    or_true : (a : Bool) → (a || true) ≡ true
    or_true true = refl
    or_true false = refl

    by_first : (b : Bool) → (d == c) ≡ b
        → (list_any (λ x. x == c) w ≡ true → list_any (λ x. x == c) (lower w) ≡ true)
        → list_any (λ x. x == c) (lower (d ∷ w)) ≡ true
    by_first true e rec = rw (still d c none e) refl
    by_first false e rec =
        let rest : list_any (λ x. x == c) w ≡ true = rw e at h in
        rw (rec rest) (or_true (to_ascii_lowercase d == c))

none_holds : (c : ℕ) (w : List ℕ) (ks : List (List ℕ)) → list_any (λ b. b == c) (lower w) ≡ true
    → no_mark c ks ≡ true → list_any (λ k. bytes_eq (lower w) (lower k)) ks ≡ false
none_holds c w [] h all = refl
none_holds c w (k ∷ ks) h all =
    let parts = and_parts (not (list_any (λ b. b == c) (lower k))) (no_mark c ks) all in
    let other : bytes_eq (lower w) (lower k) ≡ false =
    by_eq (bytes_eq (lower w) (lower k)) (bytes_eq-Decides (lower w) (lower k)).0 parts.0 in
    rw other (none_holds c w ks h parts.1)
  where
    by_eq : (b : Bool) → (b ≡ true → lower w ≡ lower k) → not (list_any (λ x. x == c) (lower k)) ≡ true → b ≡ false
    by_eq true same none =
        let has : list_any (λ x. x == c) (lower k) ≡ true = ap (λ u. list_any (λ x. x == c) u) (sym (same refl)) ∙ h in
        let both : not true ≡ true = ap not (sym has) ∙ none in cc
    by_eq false same none = refl

marked_free : (c : ℕ) (w : List ℕ) → is_ascii_alphabetic c ≡ false → no_mark c reserved_words ≡ true
    → holds c w ≡ true → not (is_reserved w) ≡ true
unfolding is_reserved
marked_free c w by_letter none h =
    ap not (none_holds c w reserved_words (any_lower c w by_letter (holds_any c w h)) none)

no_hash : no_mark 35 reserved_words ≡ true
unfolding reserved_words
no_hash = refl

no_dot : no_mark 46 reserved_words ≡ true
unfolding reserved_words
no_dot = refl

pub placed_in : (w : List ℕ) → is_placed w ≡ true → (starts_with_letter w ≡ true) × (not (is_reserved w) ≡ true)
unfolding is_placed
placed_in w h =
    let a = and_parts (holds 35 w) (is_free_name (before 35 w) && is_free_name (behind 35 w)) h in
    let b = and_parts (is_free_name (before 35 w)) (is_free_name (behind 35 w)) a.1 in
    (starts_before (λ x. x == 35) w (name_starts (before 35 w) b.0), marked_free 35 w refl no_hash a.0)

pub scoped_in : (w : List ℕ) → is_scoped w ≡ true → (starts_with_letter w ≡ true) × (not (is_reserved w) ≡ true)
unfolding is_scoped
scoped_in w h = by_name (is_free_name w) refl h
  where
    by_name : (b : Bool) → is_free_name w ≡ b → (b || is_placed w) ≡ true
        → (starts_with_letter w ≡ true) × (not (is_reserved w) ≡ true)
    by_name true e h2 = (name_starts w e, name_free w e)
    by_name false e h2 = placed_in w h2

pub pred_in : (w : List ℕ) → is_pred w ≡ true → (starts_with_letter w ≡ true) × (not (is_reserved w) ≡ true)
unfolding is_pred
pred_in w h = by_scoped (is_scoped w) refl h
  where
    by_scoped : (b : Bool) → is_scoped w ≡ b
        → (b || (holds 46 w && (is_scoped (before 46 w)
        && (bytes_eq (behind 46 w) (64 ∷ []) || is_free_name (behind 46 w))))) ≡ true
        → (starts_with_letter w ≡ true) × (not (is_reserved w) ≡ true)
    by_scoped true e h2 = scoped_in w e
    by_scoped false e h2 =
        let a = and_parts (holds 46 w) _ h2 in
        let b = and_parts (is_scoped (before 46 w)) _ a.1 in
        (starts_before (λ x. x == 46) w (scoped_in (before 46 w) b.0).0, marked_free 46 w refl no_dot a.0)

pub in_names : (w : List ℕ) → (starts_with_letter w ≡ true) × (not (is_reserved w) ≡ true) → word_in names w ≡ true
in_names w h = rw (h.1, starts_lower w h.0) refl

pub number_in : (w : List ℕ) → is_number w ≡ true → same_lead digit (lead (lower w)) ≡ true
number_in [] h = cc
number_in (c ∷ w) h =
    let a = and_parts (ltb 0 (length (c ∷ w))) _ h in
    let b = and_parts _ (list_all is_ascii_digit (c ∷ w)) a.1 in
    lower_digit c (and_parts (is_ascii_digit c) (list_all is_ascii_digit w) b.1).0

pub time_in : (w : List ℕ) → is_time w ≡ true → same_lead digit (lead (lower w)) ≡ true
unfolding is_time
time_in [] h = cc
time_in (c ∷ w) h =
    let a = and_parts _ _ h in
    let b = and_parts (list_all is_ascii_digit (c ∷ w)) _ a.1 in
    lower_digit c (and_parts (is_ascii_digit c) (list_all is_ascii_digit w) b.0).0

both_if : (a b : Bool) → cond a b false ≡ true → a ≡ true
both_if true b h = refl
both_if false b h = cc

sign_lower : (c x : ℕ) → (c == x) ≡ true → same_lead sign (lead_of (to_ascii_lowercase x)) ≡ true
    → same_lead sign (lead_of (to_ascii_lowercase c)) ≡ true
sign_lower c x h is = elim (eqb_tells c x) [ inl e ↦ rw e.1 is | inr e ↦ (let no : true ≡ false = sym h ∙ e.0 in cc) ]

pub plus_in : (w : List ℕ) → is_plus w ≡ true → same_lead sign (lead (lower w)) ≡ true
unfolding is_plus
plus_in [] h = cc
plus_in (c ∷ w) h = sign_lower c 43 (both_if (c == 43) (is_number w) h) refl

minus_in : (w : List ℕ) → is_minus w ≡ true → same_lead sign (lead (lower w)) ≡ true
unfolding is_minus
minus_in [] h = cc
minus_in (c ∷ w) h = sign_lower c 45 (both_if (c == 45) (is_number w) h) refl

pub offset_in : (w : List ℕ) → is_offset w ≡ true → same_lead sign (lead (lower w)) ≡ true
unfolding is_offset
offset_in [] h = minus_in [] h
offset_in (c ∷ w) h = by_plus (c == 43) refl h
  where
    by_plus : (b : Bool) → (c == 43) ≡ b → cond b (is_number w) (is_minus (c ∷ w)) ≡ true
        → same_lead sign (lead (lower (c ∷ w))) ≡ true
    by_plus true e k = sign_lower c 43 e refl
    by_plus false e k = minus_in (c ∷ w) k

no_month : (w : List ℕ) → digits_of 2 (before_slash w) ≡ None → date_of w ≡ None
unfolding date_of
no_month w h = rw h refl

first_digit : (w : List ℕ) → 0 < length (before_slash w) → list_all is_ascii_digit (before_slash w) ≡ true
    → same_lead digit (lead (lower w)) ≡ true
first_digit [] some all = absurd (omega arith)
first_digit (c ∷ w) some all = by_slash (c == 47) refl
  where
    one_more : (n : ℕ) → take (1 + n) (c ∷ w) ≡ c ∷ take n w
    one_more n = let e : 1 + n ≡ suc n = omega arith in rw e refl

    by_slash : (b : Bool) → (c == 47) ≡ b → same_lead digit (lead (lower (c ∷ w))) ≡ true
    by_slash true e =
        let none : before_slash (c ∷ w) ≡ [] = rw e refl in absurd (omega (arith, some, ap (λ (zs : List ℕ). length zs) none))
    by_slash false e =
        let more : before_slash (c ∷ w) ≡ c ∷ take (prefix_len (λ x. not (x == 47)) w) w =
        rw (e, one_more (prefix_len (λ x. not (x == 47)) w)) refl in
        let head : (is_ascii_digit c && list_all is_ascii_digit (take (prefix_len (λ x. not (x == 47)) w) w)) ≡ true =
        ap (λ zs. list_all is_ascii_digit zs) (sym more) ∙ all in
        lower_digit c (and_parts (is_ascii_digit c) _ head).0

two_of : (w : List ℕ) (n : ℕ) → digits_of 2 w ≡ Some n → (0 < length w) × (list_all is_ascii_digit w ≡ true)
two_of w n h = by_test (length w == 2 && list_all is_ascii_digit w) refl h
  where
    by_test : (b : Bool) → (length w == 2 && list_all is_ascii_digit w) ≡ b
        → cond b (Some (digits_value 10 w)) None ≡ Some n → (0 < length w) × (list_all is_ascii_digit w ≡ true)
    by_test true e k =
        let parts = and_parts (length w == 2) (list_all is_ascii_digit w) e in
        let two : length w ≡ 2 = grind (arith, nat_tests, parts.0) in
        (omega (arith, two), parts.1)
    by_test false e k = cc

pub date_in : (w : List ℕ) → is_date w ≡ true → same_lead digit (lead (lower w)) ≡ true
unfolding is_date
date_in w h = by_month (digits_of 2 (before_slash w)) refl
  where
    by_month : (o : Option ℕ) → digits_of 2 (before_slash w) ≡ o → same_lead digit (lead (lower w)) ≡ true
    by_month None e =
        let none : is_some (date_of w) ≡ false = ap (λ (o : Option ℕ). is_some o) (no_month w e) in cc
    by_month (Some n) e = let two = two_of (before_slash w) n e in first_digit w two.0 two.1
