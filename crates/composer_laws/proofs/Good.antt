-- What the tokens of a text are.
use Rattle.std.proofs.Common.{◌≡◌, ◌≤◌, ◌<◌, ◌-◌, ◌&&◌, cond, ℕ, zero, suc, Bool, true, false, List, [], ◌∷◌, ◌++◌, length, take, drop, eqb, leb}
use Rattle.std.proofs.Common.{Option, Some, None, option_map, option_and_then, Ok, inl, refl, ap, sym, subst, ◌∙◌, arith, append_assoc, append-nil, length-drop}
use Rattle.std.specs.List.{list_all}
use Rattle.std.specs.Option.{option_map_or}
use Rattle.std.specs.Str.{is_utf8, IsUtf8}
use Rattle.std.proofs.lemmas.Bool.Decides.{nat_tests}
use Rattle.std.proofs.lemmas.Str.{IsUtf8-from_ascii, IsUtf8-from_is_utf8, is_utf8-from_IsUtf8}
use Rattle.std.proofs.lemmas.Str.Ascii.{IsAscii-nil}
use Rattle.lemmas.proofs.Texts.{utf8_after, utf8_before}
use Rattle.lemmas.proofs.Booleans.{and_parts}
use Rattle.syntax.specs.Quotes.{is_escaped, byte_of, after_byte, unquoted, quoted_of, within_limit}
use Rattle.syntax.proofs.Escapes.{unquoted_more, still_text}
use Rattle.base_types.specs.declared.reports.Token.{Token}
use Rattle.base_types.specs.declared.reports.TokenKind.{TokenKind}
use Rattle.base_types.specs.declared.reports.TokenKind.TheVariants as kind
use Rattle.composer_lexer.specs.Tokens.{tokens_of, front}
use Rattle.composer_lexer.specs.Places.{IsToken, AreTokens, HasForm, begins_line}
use Rattle.composer_lexer.proofs.Forms.{IsFront, front_form}
use Rattle.composer_lexer.proofs.Places.{slices}
use Rattle.composer_parser.specs.Kinds.{Shape, mark, quoted, word, Spelled}
use Rattle.composer_parser.specs.Tokens.{as_text, piece, shape_of, spelled, all_spelled}
use Rattle.composer_laws.specs.Written.{IsWord, IsText, is_no_feed, Each}
use Rattle.composer_laws.proofs.Cuts.{ascii_word, text_is}

abbrev pub GoodShape : Shape → Type 0
GoodShape (word w) = IsWord w
GoodShape (quoted v) = IsText v
GoodShape (mark c) = Unit {0}

abbrev pub Good : Spelled → Type 0
Good t = GoodShape t.shape

-- the empty text
empty_text : IsText []
empty_text = record { utf8 = is_utf8-from_IsUtf8 [] (IsUtf8-from_ascii [] IsAscii-nil); room = omega arith; line = refl }

-- what stands behind the opening quote
only_quote : (front cs v : List ℕ) → IsUtf8 (front ++ 34 ∷ cs) → list_all is_no_feed (34 ∷ cs) ≡ true
    → unquoted (34 ∷ cs) ≡ Some v → (v ≡ []) × (cs ≡ [])
unfolding unquoted
only_quote front [] v u f e = (cc, refl)
only_quote front (c ∷ cs) v u f e = cc

after_feed : (c d : ℕ) (cs : List ℕ) (b : Bool) → (eqb c 92 && is_escaped d) ≡ b → list_all is_no_feed (c ∷ d ∷ cs) ≡ true
    → (is_no_feed (cond b d c) ≡ true) × (list_all is_no_feed (cond b cs (d ∷ cs)) ≡ true)
after_feed c d cs true e h =
    let one = and_parts (is_no_feed c) _ h in
    let two = and_parts (is_no_feed d) (list_all is_no_feed cs) one.1 in (two.0, two.1)
after_feed c d cs false e h = let one = and_parts (is_no_feed c) _ h in (one.0, one.1)

byte_feed : (c : ℕ) (cs : List ℕ) → list_all is_no_feed (c ∷ cs) ≡ true
    → (is_no_feed (byte_of c cs) ≡ true) × (list_all is_no_feed (after_byte c cs) ≡ true)
byte_feed c [] h = ((and_parts (is_no_feed c) true h).0, refl)
byte_feed c (d ∷ cs) h = after_feed c d cs (eqb c 92 && is_escaped d) refl h

shorter_by : (b : Bool) (d : ℕ) (cs : List ℕ) → length (cond b cs (d ∷ cs)) ≤ suc (length cs)
shorter_by true d cs = omega arith
shorter_by false d cs = omega arith

shorter : (c : ℕ) (cs : List ℕ) → length (after_byte c cs) ≤ length cs
shorter c [] = omega arith
shorter c (d ∷ cs) = shorter_by (eqb c 92 && is_escaped d) d cs

first_of_some : (b : ℕ) (o : Option (List ℕ)) (v : List ℕ) → option_map (λ w. b ∷ w) o ≡ Some v
    → (w : List ℕ) × (o ≡ Some w) × (v ≡ b ∷ w)
first_of_some b None v e = cc
first_of_some b (Some w) v e = (w, refl, cc)

quote_before : (front cs : List ℕ) → IsUtf8 (front ++ 34 ∷ cs) → IsUtf8 (front ++ [])
quote_before front cs u = rw (append-nil front) (utf8_before front cs 34 (omega arith) u).0

abbrev Value : List ℕ → List ℕ → Type 0
Value front v = IsUtf8 (front ++ v) × (list_all is_no_feed v ≡ true)

value_of : (n : ℕ) (front cs v : List ℕ) → length cs ≤ n → IsUtf8 (front ++ cs) → list_all is_no_feed cs ≡ true
    → unquoted cs ≡ Some v → Value front v
unfolding unquoted
value_of zero front [] v small u f e = cc
value_of zero front (c ∷ cs) v small u f e = absurd (omega (arith, small))
value_of (suc n) front [] v small u f e = cc
value_of (suc n) front (c ∷ cs) v small u f e =
    by_quote (eqb c 34) refl (λ w k. value_of n (front ++ byte_of c cs ∷ []) (after_byte c cs) w (omega (arith, shorter c cs, small)) (still_text front c cs u) (byte_feed c cs f).1 k)
  where
    plain : eqb c 34 ≡ false
        → ((w : List ℕ) → unquoted (after_byte c cs) ≡ Some w → Value (front ++ byte_of c cs ∷ []) w) → Value front v
    plain h later =
        let found = first_of_some (byte_of c cs) (unquoted (after_byte c cs)) v (sym (unquoted_more c cs h) ∙ e) in
        let rest = later found.0 found.1 in
        let P : List ℕ → Type 0 = λ x. Value front x in
        let both : list_all is_no_feed (byte_of c cs ∷ found.0) ≡ true =
        let a = (byte_feed c cs f).0 in let b = rest.1 in rw (a, b) refl in
        subst P (sym found.2) (rw (append_assoc front (byte_of c cs ∷ []) found.0) at rest.0, both)

    by_quote : (b : Bool) → eqb c 34 ≡ b
        → ((w : List ℕ) → unquoted (after_byte c cs) ≡ Some w → Value (front ++ byte_of c cs ∷ []) w) → Value front v
    by_quote true h later =
        let is : c ≡ 34 = grind (arith, nat_tests) in
        let P : ℕ → Type 0 = λ x. (IsUtf8 (front ++ x ∷ cs)) × (list_all is_no_feed (x ∷ cs) ≡ true) × (unquoted (x ∷ cs) ≡ Some v) in
        let here = subst P is (u, f, e) in
        let none = only_quote front cs v here.0 here.1 here.2 in
        let Q : List ℕ → Type 0 = λ x. Value front x in
        subst Q (sym none.0) (quote_before front cs here.0, refl)
    by_quote false h later = plain h later

-- a text in quotes that has no line feed
limit_is : (o : Option (List ℕ)) (v : List ℕ) → option_and_then within_limit o ≡ Some v → (o ≡ Some v) × (length v ≤ 4096)
limit_is None v e = cc
limit_is (Some w) v e = by_room (leb (length w) 4096) refl
  where
    by_room : (b : Bool) → leb (length w) 4096 ≡ b → (Some w ≡ Some v) × (length v ≤ 4096)
    by_room true h =
        let found : Some w ≡ Some v = ap (λ b. cond b (Some w) None) (sym h) ∙ e in
        let same : w ≡ v = cc in
        let room : length w ≤ 4096 = grind (arith, nat_tests) in
        (found, subst (λ (x : List ℕ). length x ≤ 4096) same room)
    by_room false h = let no : None ≡ Some v = ap (λ b. cond b (Some w) None) (sym h) ∙ e in cc

quoted_is : (bytes v : List ℕ) → is_utf8 bytes ≡ true → list_all is_no_feed bytes ≡ true → quoted_of bytes ≡ Some v → IsText v
unfolding quoted_of
quoted_is [] v u f e = cc
quoted_is (c ∷ cs) v u f e = by_quote (eqb c 34) refl
  where
    by_quote : (b : Bool) → eqb c 34 ≡ b → IsText v
    by_quote true h =
        let is : c ≡ 34 = grind (arith, nat_tests) in
        let found : option_and_then within_limit (unquoted cs) ≡ Some v =
        ap (λ b. cond b (option_and_then within_limit (unquoted cs)) None) (sym h) ∙ e in
        let parts = limit_is (unquoted cs) v found in
        let utf8 : IsUtf8 (34 ∷ cs) = subst (λ (x : ℕ). IsUtf8 (x ∷ cs)) is (IsUtf8-from_is_utf8 (c ∷ cs) u) in
        let value = value_of (length cs) (34 ∷ []) cs v (omega arith) utf8 (and_parts (is_no_feed c) (list_all is_no_feed cs) f).1 parts.0 in
        record { utf8 = is_utf8-from_IsUtf8 v (utf8_after 34 v (omega arith) value.0); room = parts.1; line = value.1 }
    by_quote false h = let no : None ≡ Some v = ap (λ b. cond b (option_and_then within_limit (unquoted cs)) None) (sym h) ∙ e in cc

text_or_none : (bytes : List ℕ) (o : Option (List ℕ)) → quoted_of bytes ≡ o → is_utf8 bytes ≡ true → list_all is_no_feed bytes ≡ true
    → IsText (option_map_or (λ v. v) o [])
text_or_none bytes None e u f = empty_text
text_or_none bytes (Some v) e u f = quoted_is bytes v u f e

none_quoted : quoted_of [] ≡ None
unfolding quoted_of
none_quoted = refl

as_text_of : (bytes : List ℕ) (b : Bool) → is_utf8 bytes ≡ b → as_text bytes ≡ cond b bytes []
unfolding as_text
as_text_of bytes b e = rw e refl

quoted_good : (bytes : List ℕ) → list_all is_no_feed bytes ≡ true → IsText (option_map_or (λ v. v) (quoted_of (as_text bytes)) [])
quoted_good bytes f = by_utf8 (is_utf8 bytes) refl
  where
    by_utf8 : (b : Bool) → is_utf8 bytes ≡ b → IsText (option_map_or (λ v. v) (quoted_of (as_text bytes)) [])
    by_utf8 true e = rw (as_text_of bytes true e) (text_or_none bytes (quoted_of bytes) refl e f)
    by_utf8 false e = rw (as_text_of bytes false e, none_quoted) empty_text

-- the piece of a token
piece_slice : (text : List ℕ) (start end : ℕ) → start < end → end ≤ length text
    → piece text start end ≡ as_text (take (end - start) (drop start text))
unfolding piece
piece_slice text start end some within =
    let low : leb start end ≡ true = grind (arith, nat_tests) in
    let high : leb end (length text) ≡ true = grind (arith, nat_tests) in
    rw (low, high) refl

by_kind : (k : TokenKind) (bytes : List ℕ) → HasForm k bytes → list_all is_no_feed bytes ≡ true → GoodShape (shape_of k (as_text bytes))
by_kind kind.Word bytes h f =
    let same = text_is bytes (is_utf8-from_IsUtf8 bytes (IsUtf8-from_ascii bytes (ascii_word bytes h.2))) in
    let P : List ℕ → Type 0 = λ x. IsWord x in
    subst P (sym same) (record { bytes = h.2; some = h.0; room = h.1 })
by_kind kind.Quoted bytes h f = quoted_good bytes f
by_kind kind.Mark bytes h f = tt

token_feed : (text : List ℕ) (t : Token) → IsToken text t → (bs : List ℕ) → drop t.start text ≡ bs
    → list_all is_no_feed (take (t.end - t.start) bs) ≡ true
token_feed text t h [] e =
    let some = h.some in
    let within = h.within in
    let none : length (drop t.start text) ≡ 0 = ap (λ (xs : List ℕ). length xs) e in
    absurd (omega (arith, some, within, none, length-drop t.start text))
token_feed text t h (b ∷ bs) e =
    let whole = ap (λ xs. front (begins_line text t.start) xs) (sym e) ∙ h.whole in
    (subst (λ f. IsFront (b ∷ bs) f) whole (front_form (begins_line text t.start) b bs)).0.2

token_good : (text : List ℕ) (t : Token) → IsToken text t → Good (spelled text t)
token_good text t h =
    let P : List ℕ → Type 0 = λ x. GoodShape (shape_of t.kind x) in
    subst P (sym (piece_slice text t.start t.end h.some h.within))
    (by_kind t.kind (take (t.end - t.start) (drop t.start text)) h.slice (token_feed text t h (drop t.start text) refl))

tokens_good : (text : List ℕ) (place : ℕ) (ts : List Token) → AreTokens text place ts → Each Good (all_spelled text ts)
tokens_good text place [] h = tt
tokens_good text place (t ∷ ts) h = (token_good text t h.1, tokens_good text t.end ts h.2)

pub all_good : (text : List ℕ) (ts : List Token) → tokens_of text ≡ Ok ts → Each Good (all_spelled text ts)
all_good text ts e = tokens_good text 0 ts (slices text (Ok ts) (inl (sym e)))
