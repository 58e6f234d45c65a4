-- Lines of a text are texts without line feeds, and so is what stands in quotes on one.
use Rattle.std.proofs.Common.{◌≡◌, ◌<◌, ◌≤◌, ◌+◌, ◌-◌, ℕ, zero, suc, Bool, true, false, ◌&&◌, not, cond, eqb, leb, List, [], ◌∷◌}
use Rattle.std.proofs.Common.{◌++◌, length, drop, take, get_or, Option, Some, None, option_map, IfSome, IsUtf8, refl, ap, sym}
use Rattle.std.proofs.Common.{subst, ◌∙◌, arith, append_assoc, append-nil, if◌then◌else◌}
use Rattle.std.specs.List.{AllByRecursion, after_first, list_all, onto_first, prefix_len, slice_split}
use Rattle.std.specs.Str.{is_utf8}
use Rattle.std.specs.Str.Lossy.{utf8_valid_len, valid_len_up_to}
use Rattle.std.proofs.Math.Seq.{take-length}
use Rattle.std.proofs.lemmas.Bool.{eqb-true, leb-true}
use Rattle.std.proofs.lemmas.Str.{IsCharBoundary-before_ascii, IsUtf8-from_is_utf8}
use Rattle.std.proofs.lemmas.Str.{IsUtf8-nil, IsUtf8-take, is_utf8-from_IsUtf8}
use Rattle.lemmas.proofs.Texts.{some_parts, utf8_after, utf8_before}
use Rattle.definition_texts.specs.Refusals.{IsText}
use Rattle.syntax.specs.Quotes.{is_escaped, unquoted}
use Rattle.syntax.specs.Splits.{lines_of, without_last_feed}
use Rattle.syntax.proofs.Escapes.{still_text}
use Rattle.record_rows.specs.Words.{limited, text_of}
use Rattle.record_rows.specs.declared.rows.Ranged.{Ranged}
use Rattle.record_rows.specs.declared.rows.Ranged.TheVariants.{Within, OutOfRange}
use Rattle.record_script.specs.Numbers.{within}
use Rattle.history_laws.specs.Printables.{IsLineText, is_no_feed}
use Rattle.history_laws.proofs.Lines.{Lacks}

-- Bytes whose longest front of UTF-8 is all of them.

front_most : (bytes : List ℕ) (n : ℕ) → valid_len_up_to bytes n ≤ n
front_most bytes zero = omega arith
front_most bytes (suc n) = go (is_utf8 (take (suc n) bytes)) (front_most bytes n)
  where
    go : (b : Bool) → valid_len_up_to bytes n ≤ n → (if b then suc n else valid_len_up_to bytes n) ≤ suc n
    go true h = omega arith
    go false h = omega (arith, h)

whole_front : (bytes : List ℕ) (n : ℕ) → length bytes ≡ n → valid_len_up_to bytes n ≡ n → IsUtf8 bytes
whole_front [] zero long whole = IsUtf8-nil
whole_front (b ∷ bytes) zero long whole = absurd (omega (arith, long))
whole_front bytes (suc n) long whole = go (is_utf8 (take (suc n) bytes)) refl
  where
    go : (t : Bool) → is_utf8 (take (suc n) bytes) ≡ t → IsUtf8 bytes
    go true is =
        subst IsUtf8 (ap (λ k. take k bytes) (sym long) ∙ take-length bytes) (IsUtf8-from_is_utf8 (take (suc n) bytes) is)
    go false is =
        let less : valid_len_up_to bytes n ≡ suc n =
        sym (ap (λ t. if t then suc n else valid_len_up_to bytes n) is) ∙ whole in
        let most = front_most bytes n in
        absurd (omega (arith, less, most))

pub text_utf8 : (bytes : List ℕ) → IsText bytes → IsUtf8 bytes
unfolding utf8_valid_len
text_utf8 bytes h = whole_front bytes (length bytes) refl h

-- Cut at a byte that is a character.

glued : List ℕ → List (List ℕ) → List (List ℕ)
glued front [] = []
glued front (part ∷ parts) = (front ++ part) ∷ parts

glued_onto : (front : List ℕ) (x : ℕ) (parts : List (List ℕ)) → 0 < length parts
    → AllByRecursion IsUtf8 (glued (front ++ x ∷ []) parts) → AllByRecursion IsUtf8 (glued front (onto_first x parts))
unfolding glued
glued_onto front x [] some all = absurd (omega (arith, some))
glued_onto front x (part ∷ parts) some all = (subst IsUtf8 (append_assoc front (x ∷ []) part) all.0, all.1)

unglued : (parts : List (List ℕ)) → AllByRecursion IsUtf8 (glued [] parts) → AllByRecursion IsUtf8 parts
unfolding glued
unglued [] all = tt
unglued (part ∷ parts) all = all

split_utf8 : (c : ℕ) → c < 128 → (front xs : List ℕ) → IsUtf8 (front ++ xs)
    → AllByRecursion IsUtf8 (glued front (slice_split (λ b. eqb b c) xs))
unfolding glued
split_utf8 c low front [] u = (u, tt)
split_utf8 c low front (x ∷ xs) u =
    go (eqb x c) refl (λ v. split_utf8 c low [] xs v) (λ v. split_utf8 c low (front ++ x ∷ []) xs v)
  where
    go : (b : Bool) → eqb x c ≡ b → (IsUtf8 xs → AllByRecursion IsUtf8 (glued [] (slice_split (λ y. eqb y c) xs)))
        → (IsUtf8 ((front ++ x ∷ []) ++ xs) → AllByRecursion IsUtf8 (glued (front ++ x ∷ []) (slice_split (λ y. eqb y c) xs)))
        → AllByRecursion IsUtf8
        (glued front (cond b ([] ∷ slice_split (λ y. eqb y c) xs) (onto_first x (slice_split (λ y. eqb y c) xs))))
    go true e one more =
        let same = eqb-true x c e in
        let small : x < 128 = omega (arith, same, low) in
        let parts = utf8_before front xs x small u in
        (subst IsUtf8 (sym (append-nil front)) parts.0, unglued (slice_split (λ y. eqb y c) xs) (one (utf8_after x xs small parts.1)))
    go false e one more =
        glued_onto front x (slice_split (λ y. eqb y c) xs) (some_parts (λ y. eqb y c) xs)
        (more (subst IsUtf8 (sym (append_assoc front (x ∷ []) xs)) u))

last_utf8 : (text : List ℕ) → IsUtf8 text → IsUtf8 (without_last_feed text)
last_utf8 [] u = u
last_utf8 (b ∷ bs) u = go (eqb (get_or (b ∷ bs) (length (b ∷ bs) - 1) 0) 10) refl
  where
    go : (t : Bool) → eqb (get_or (b ∷ bs) (length (b ∷ bs) - 1) 0) 10 ≡ t
        → IsUtf8 (if t then take (length (b ∷ bs) - 1) (b ∷ bs) else b ∷ bs)
    go true e =
        let is = eqb-true (get_or (b ∷ bs) (length (b ∷ bs) - 1) 0) 10 e in
        let small : get_or (b ∷ bs) (length (b ∷ bs) - 1) 0 < 128 = omega (arith, is) in
        let inside : length (b ∷ bs) - 1 < length (b ∷ bs) = omega arith in
        IsUtf8-take (b ∷ bs) (length (b ∷ bs) - 1) u
        (IsCharBoundary-before_ascii (b ∷ bs) (length (b ∷ bs) - 1) inside small)
    go false e = u

-- Cut at a byte that is to be missing.

onto_lacks : (c x : ℕ) (parts : List (List ℕ)) → eqb x c ≡ false → AllByRecursion (Lacks c) parts
    → AllByRecursion (Lacks c) (onto_first x parts)
onto_lacks c x [] e all = ((e, tt), tt)
onto_lacks c x (part ∷ parts) e all = ((e, all.0), all.1)

split_lacks : (c : ℕ) (xs : List ℕ) → AllByRecursion (Lacks c) (slice_split (λ b. eqb b c) xs)
split_lacks c [] = (tt, tt)
split_lacks c (x ∷ xs) = go (eqb x c) refl (split_lacks c xs)
  where
    go : (b : Bool) → eqb x c ≡ b → AllByRecursion (Lacks c) (slice_split (λ y. eqb y c) xs)
        → AllByRecursion (Lacks c) (cond b ([] ∷ slice_split (λ y. eqb y c) xs) (onto_first x (slice_split (λ y. eqb y c) xs)))
    go true e all = (tt, all)
    go false e all = onto_lacks c x (slice_split (λ y. eqb y c) xs) e all

-- A line, or what is left of it.
pub record IsPiece (w : List ℕ) : Type 0 where
  pub lacks : Lacks 10 w
  pub utf8 : IsUtf8 w

pieces : (ws : List (List ℕ)) → AllByRecursion (Lacks 10) ws → AllByRecursion IsUtf8 ws → AllByRecursion IsPiece ws
pieces [] lack are = tt
pieces (w ∷ ws) lack are = (record { lacks = lack.0; utf8 = are.0 }, pieces ws lack.1 are.1)

pub lines_are : (text : List ℕ) → IsUtf8 text → AllByRecursion IsPiece (lines_of text)
unfolding lines_of
lines_are text u = go (eqb (length text) 0)
  where
    go : (b : Bool) → AllByRecursion IsPiece (if b then [] else slice_split (λ b. eqb b 10) (without_last_feed text))
    go true = tt
    go false =
        pieces (slice_split (λ b. eqb b 10) (without_last_feed text)) (split_lacks 10 (without_last_feed text))
        (unglued (slice_split (λ b. eqb b 10) (without_last_feed text))
        (split_utf8 10 (omega arith) [] (without_last_feed text) (last_utf8 text u)))

drop_lacks : (c n : ℕ) (xs : List ℕ) → Lacks c xs → Lacks c (drop n xs)
drop_lacks c zero xs h = h
drop_lacks c (suc n) [] h = tt
drop_lacks c (suc n) (x ∷ xs) h = drop_lacks c n xs h.1

after_utf8 : (c : ℕ) → c < 128 → (front xs : List ℕ) → IsUtf8 (front ++ xs) → IsUtf8 (after_first (λ b. eqb b c) xs)
after_utf8 c low front [] u = IsUtf8-nil
after_utf8 c low front (x ∷ xs) u = go (eqb x c) refl (λ v. after_utf8 c low (front ++ x ∷ []) xs v)
  where
    go : (b : Bool) → eqb x c ≡ b
        → (IsUtf8 ((front ++ x ∷ []) ++ xs) → IsUtf8 (drop (prefix_len (λ y. not (eqb y c)) xs + 1) xs))
        → IsUtf8 (drop (cond (not b) (1 + prefix_len (λ y. not (eqb y c)) xs) 0 + 1) (x ∷ xs))
    go true e more =
        let same = eqb-true x c e in
        let small : x < 128 = omega (arith, same, low) in
        utf8_after x xs small (utf8_before front xs x small u).1
    go false e more =
        let one : suc (prefix_len (λ y. not (eqb y c)) xs + 1) ≡ 1 + prefix_len (λ y. not (eqb y c)) xs + 1 = omega arith in
        subst (λ n. IsUtf8 (drop n (x ∷ xs))) one (more (subst IsUtf8 (sym (append_assoc front (x ∷ []) xs)) u))

-- what stands behind the first space
pub after_piece : (w : List ℕ) → IsPiece w → IsPiece (after_first (λ b. eqb b 32) w)
after_piece w h =
    record {
      lacks = drop_lacks 10 (prefix_len (λ b. not (eqb b 32)) w + 1) w h.lacks;
      utf8 = after_utf8 32 (omega arith) [] w h.utf8;
    }

-- Texts in quotes.

some_with : (P Q : List ℕ → Type 0) (d : ℕ) → ((v : List ℕ) → P v → Q (d ∷ v)) → (o : Option (List ℕ)) → IfSome o P
    → IfSome (option_map (λ value. d ∷ value) o) Q
some_with P Q d step None h = tt
some_with P Q d step (Some value) h = step value h

either : (P : List ℕ → Type 0) (b : Bool) (x y : Option (List ℕ)) → IfSome x P → IfSome y P → IfSome (if b then x else y) P
either P true x y h k = h
either P false x y h k = k

unquoted_lacks : (c : ℕ) (xs : List ℕ) → Lacks c xs → IfSome (unquoted xs) (Lacks c)
unfolding unquoted
unquoted_lacks c [] h = tt
unquoted_lacks c (x ∷ []) h = either (Lacks c) (eqb x 34) (Some []) None tt tt
unquoted_lacks c (x ∷ y ∷ xs) h =
    either (Lacks c) (eqb x 34) None _ tt
    (either (Lacks c) (eqb x 92 && is_escaped y) (option_map (λ value. y ∷ value) (unquoted xs))
    (option_map (λ value. x ∷ value) (unquoted (y ∷ xs)))
    (some_with (Lacks c) (Lacks c) y (λ v k. (h.1.0, k)) (unquoted xs) (unquoted_lacks c xs h.1.1))
    (some_with (Lacks c) (Lacks c) x (λ v k. (h.0, k)) (unquoted (y ∷ xs)) (unquoted_lacks c (y ∷ xs) h.1)))

-- what stands behind a front is a text with it
abbrev Behind : List ℕ → List ℕ → Type 0
Behind front v = IsUtf8 (front ++ v)

one_behind : (front : List ℕ) (d : ℕ) (o : Option (List ℕ)) → IfSome o (Behind (front ++ d ∷ []))
    → IfSome (option_map (λ value. d ∷ value) o) (Behind front)
one_behind front d o h =
    some_with (Behind (front ++ d ∷ [])) (Behind front) d (λ v k. subst IsUtf8 (append_assoc front (d ∷ []) v) k) o h

unquoted_utf8 : (front xs : List ℕ) → IsUtf8 (front ++ xs) → IfSome (unquoted xs) (Behind front)
unfolding unquoted
unquoted_utf8 front [] u = tt
unquoted_utf8 front (x ∷ []) u = go (eqb x 34) refl
  where
    go : (b : Bool) → eqb x 34 ≡ b → IfSome (if b then Some [] else None) (Behind front)
    go true e =
        let same = eqb-true x 34 e in
        let small : x < 128 = omega (arith, same) in
        subst IsUtf8 (sym (append-nil front)) (utf8_before front [] x small u).0
    go false e = tt
unquoted_utf8 front (x ∷ y ∷ xs) u =
    either (Behind front) (eqb x 34) None _ tt
    (go (eqb x 92 && is_escaped y) (still_text front x (y ∷ xs) u) (λ v. unquoted_utf8 (front ++ y ∷ []) xs v)
    (λ v. unquoted_utf8 (front ++ x ∷ []) (y ∷ xs) v))
  where
    go : (t : Bool) → IsUtf8 ((front ++ cond t y x ∷ []) ++ cond t xs (y ∷ xs))
        → (IsUtf8 ((front ++ y ∷ []) ++ xs) → IfSome (unquoted xs) (Behind (front ++ y ∷ [])))
        → (IsUtf8 ((front ++ x ∷ []) ++ y ∷ xs) → IfSome (unquoted (y ∷ xs)) (Behind (front ++ x ∷ [])))
        → IfSome (if t then option_map (λ value. y ∷ value) (unquoted xs) else option_map (λ value. x ∷ value) (unquoted (y ∷ xs)))
        (Behind front)
    go true still one two = one_behind front y (unquoted xs) (one still)
    go false still one two = one_behind front x (unquoted (y ∷ xs)) (two still)

-- As texts of prompts.

no_feeds : (w : List ℕ) → Lacks 10 w → list_all is_no_feed w ≡ true
no_feeds [] h = refl
no_feeds (b ∷ w) h = ap (λ t. not t && list_all is_no_feed w) h.0 ∙ no_feeds w h.1

abbrev pub IsLine : Ranged (List ℕ) → Type 0
IsLine t = IsLineText (within [] t)

limited_is : (value : List ℕ) → Lacks 10 value → IsUtf8 value → IsLine (limited value)
limited_is value lacks utf8 = go (leb (length value) 4096) refl
  where
    go : (b : Bool) → leb (length value) 4096 ≡ b → IsLine (if b then Within value else OutOfRange)
    go true e =
        record { utf8 = is_utf8-from_IsUtf8 value utf8; room = leb-true (length value) 4096 e; line = no_feeds value lacks }
    go false e = record { utf8 = is_utf8-from_IsUtf8 [] IsUtf8-nil; room = omega arith; line = refl }

mapped : (o : Option (List ℕ)) → IfSome o (Lacks 10) → IfSome o IsUtf8 → IfSome (option_map limited o) IsLine
mapped None h k = tt
mapped (Some value) h k = limited_is value h k

pub text_is : (w : List ℕ) → IsPiece w → IfSome (text_of w) IsLine
unfolding text_of
text_is [] h = tt
text_is (c ∷ cs) h = go (eqb c 34) refl
  where
    go : (b : Bool) → eqb c 34 ≡ b → IfSome (if b then option_map limited (unquoted cs) else None) IsLine
    go true e =
        let same = eqb-true c 34 e in
        let small : c < 128 = omega (arith, same) in
        mapped (unquoted cs) (unquoted_lacks 10 cs h.lacks.1) (unquoted_utf8 [] cs (utf8_after c cs small h.utf8))
    go false e = tt
