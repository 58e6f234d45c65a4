-- What stands at the front of a text, as a slice of it.
use Rattle.std.proofs.Common.{◌≡◌, ◌≤◌, ◌+◌, ◌&&◌, ◌==◌, not, cond, ℕ, zero, suc, Bool, true, false, List, [], ◌∷◌, length, take, get_or, leb}
use Rattle.std.proofs.Common.{Option, Some, None, ◌⊎◌, refl, ap, sym, subst, inl, inr, arith}
use Rattle.std.specs.List.{list_all, prefix_len}
use Rattle.std.proofs.lemmas.Bool.{leb-true}
use Rattle.std.proofs.lemmas.Bool.Decides.{eqb_tells}
use Rattle.std.proofs.lemmas.List.Sums.{prefix_len-le-length}
use Rattle.std.proofs.lemmas.List.Folds.{length-prefix_len}
use Rattle.lemmas.proofs.Booleans.{and_parts}
use Rattle.lemmas.proofs.Numbers.{eq_tells}
use Rattle.syntax.specs.Quotes.{is_escaped, unquoted, quoted_of}
use Rattle.base_types.specs.declared.reports.TokenKind.TheVariants as kind
use Rattle.composer_lexer.specs.declared.fronts.Front.{Front}
use Rattle.composer_lexer.specs.declared.fronts.Front.TheVariants.{LineEnd, Space, Piece, Bad}
use Rattle.composer_lexer.specs.declared.fronts.Trouble.TheVariants as trouble
use Rattle.composer_lexer.specs.Tokens.{front, text_width, with_bytes, text_front, word_front, is_blank, is_mark, is_word_byte}
use Rattle.composer_lexer.specs.Places.{HasForm}

abbrev pub is_no_feed : ℕ → Bool
is_no_feed c = not (c == 10)

-- so many bytes, and no line feed among them
abbrev pub Runs : ℕ → List ℕ → Type 0
Runs w bs = (1 ≤ w) × (w ≤ length bs) × (list_all is_no_feed (take w bs) ≡ true)

abbrev pub IsFront : List ℕ → Front → Type 0
IsFront bs LineEnd = get_or bs 0 0 ≡ 10
IsFront bs (Space w) = Runs w bs
IsFront bs (Piece k w) = Runs w bs × HasForm k (take w bs)
IsFront bs (Bad t) = Unit {0}

all_prefix : (p : ℕ → Bool) (xs : List ℕ) → list_all p (take (prefix_len p xs) xs) ≡ true
all_prefix p [] = refl
all_prefix p (x ∷ xs) = by_first (p x) refl (all_prefix p xs)
  where
    one_more : (n : ℕ) → take (1 + n) (x ∷ xs) ≡ x ∷ take n xs
    one_more n = let e : 1 + n ≡ suc n = omega arith in rw e refl

    by_first : (b : Bool) → p x ≡ b → list_all p (take (prefix_len p xs) xs) ≡ true
        → list_all p (take (prefix_len p (x ∷ xs)) (x ∷ xs)) ≡ true
    by_first true e later = rw (e, one_more (prefix_len p xs), e) later
    by_first false e later = rw e refl

word_no_feed : (c : ℕ) → is_word_byte c ≡ true → is_no_feed c ≡ true
word_no_feed c h =
    let least = leb-true 33 c (and_parts _ _ h).0 in
    elim (eqb_tells c 10) [ inl e ↦ absurd (omega (arith, least, e.1)) | inr e ↦ ap not e.0 ]

words_no_feed : (xs : List ℕ) → list_all is_word_byte xs ≡ true → list_all is_no_feed xs ≡ true
words_no_feed [] h = refl
words_no_feed (x ∷ xs) h =
    let parts = and_parts (is_word_byte x) (list_all is_word_byte xs) h in
    rw (word_no_feed x parts.0, words_no_feed xs parts.1) refl

-- what the quotes of a text hold, up to the closing one
abbrev pub Inside : List ℕ → Option (ℕ × ℕ) → Type 0
Inside bs None = Unit {0}
Inside bs (Some (w, v)) = Runs w bs × ((value : List ℕ) × (unquoted (take w bs) ≡ Some value) × (length value ≡ v))

escape_feed : (d : ℕ) → is_escaped d ≡ true → is_no_feed d ≡ true
escape_feed d h = by_quote (eqb_tells d 34) (eqb_tells d 92)
  where
    by_quote : ((d == 34) ≡ true × d ≡ 34) ⊎ ((d == 34) ≡ false × (d ≡ 34 → ⊥))
        → ((d == 92) ≡ true × d ≡ 92) ⊎ ((d == 92) ≡ false × (d ≡ 92 → ⊥)) → is_no_feed d ≡ true
    by_quote (inl e) o = rw e.1 refl
    by_quote (inr e) (inl k) = rw k.1 refl
    by_quote (inr e) (inr k) = let none : is_escaped d ≡ false = rw (e.0, k.0) refl in cc

inside_escape : (c d : ℕ) (cs : List ℕ) (o : Option (ℕ × ℕ)) → (c == 34) ≡ false → (c == 10) ≡ false
    → (c == 92 && is_escaped d) ≡ true → Inside cs o → Inside (c ∷ d ∷ cs) (with_bytes 2 1 o)
unfolding unquoted
inside_escape c d cs None quote feed escape h = tt
inside_escape c d cs (Some (w, v)) quote feed escape ((some, within, feeds), (value, is, count)) =
    let two : w + 2 ≡ suc (suc w) = omega arith in
    let more : v + 1 ≡ suc v = omega arith in
    let escaped = (and_parts (c == 92) (is_escaped d) escape).1 in
    rw (two, more) (
      (omega arith, omega arith, rw (feed, escape_feed d escaped) feeds),
      (d ∷ value, rw (quote, escape, is) refl, ap suc count),
    )

inside_plain : (c d : ℕ) (cs : List ℕ) (o : Option (ℕ × ℕ)) → (c == 34) ≡ false → (c == 10) ≡ false
    → (c == 92 && is_escaped d) ≡ false → Inside (d ∷ cs) o → Inside (c ∷ d ∷ cs) (with_bytes 1 1 o)
unfolding unquoted
inside_plain c d cs None quote feed escape h = tt
inside_plain c d cs (Some (zero, v)) quote feed escape ((some, within, feeds), rest) = absurd (omega arith)
inside_plain c d cs (Some (suc w, v)) quote feed escape ((some, within, feeds), (value, is, count)) =
    let two : suc w + 1 ≡ suc (suc w) = omega arith in
    let more : v + 1 ≡ suc v = omega arith in
    rw (two, more)
    ((omega arith, omega arith, rw feed feeds), (c ∷ value, rw (quote, escape, is) refl, ap suc count))

inside_more : (c d : ℕ) (cs : List ℕ) → Inside cs (text_width cs) → Inside (d ∷ cs) (text_width (d ∷ cs))
    → Inside (c ∷ d ∷ cs) (text_width (c ∷ d ∷ cs))
unfolding text_width unquoted
inside_more c d cs two one = by_quote (c == 34) refl
  where
    by_escape : (b : Bool) → (c == 34) ≡ false → (c == 10) ≡ false → (c == 92 && is_escaped d) ≡ b
        → Inside (c ∷ d ∷ cs) (cond b (with_bytes 2 1 (text_width cs)) (with_bytes 1 1 (text_width (d ∷ cs))))
    by_escape true quote feed e = inside_escape c d cs (text_width cs) quote feed e two
    by_escape false quote feed e = inside_plain c d cs (text_width (d ∷ cs)) quote feed e one

    by_feed : (b : Bool) → (c == 34) ≡ false → (c == 10) ≡ b
        → Inside (c ∷ d ∷ cs) (cond b None (cond (c == 92 && is_escaped d) (with_bytes 2 1 (text_width cs)) (with_bytes 1 1 (text_width (d ∷ cs)))))
    by_feed true quote e = tt
    by_feed false quote e = by_escape (c == 92 && is_escaped d) quote e refl

    by_quote : (b : Bool) → (c == 34) ≡ b
        → Inside (c ∷ d ∷ cs) (cond b (Some (1, 0)) (cond (c == 10) None (cond (c == 92 && is_escaped d) (with_bytes 2 1 (text_width cs)) (with_bytes 1 1 (text_width (d ∷ cs))))))
    by_quote true e =
        let is = (eq_tells c 34 e) in ((omega arith, omega arith, rw is refl), ([], rw is refl, refl))
    by_quote false e = by_feed (c == 10) e refl

inside : (bs : List ℕ) → Inside bs (text_width bs)
unfolding text_width unquoted
inside [] = tt
inside (c ∷ []) = by_quote (c == 34) refl
  where
    by_quote : (b : Bool) → (c == 34) ≡ b → Inside (c ∷ []) (cond b (Some (1, 0)) None)
    by_quote true e =
        let is = (eq_tells c 34 e) in ((omega arith, omega arith, rw is refl), ([], rw is refl, refl))
    by_quote false e = tt
inside (c ∷ d ∷ cs) = inside_more c d cs (inside cs) (inside (d ∷ cs))

text_form : (bs : List ℕ) (o : Option (ℕ × ℕ)) → Inside bs o → IsFront (34 ∷ bs) (text_front o)
unfolding quoted_of
text_form bs None h = tt
text_form bs (Some (w, v)) ((some, within, feeds), (value, is, count)) = by_room (leb v 4096) refl
  where
    by_room : (b : Bool) → leb v 4096 ≡ b → IsFront (34 ∷ bs) (cond b (Piece kind.Quoted (w + 1)) (Bad trouble.Long))
    by_room false e = tt
    by_room true e =
        let more : w + 1 ≡ suc w = omega arith in
        rw more ((omega arith, omega arith, feeds), rw (is, count, e) refl)

word_form : (b : ℕ) (bs : List ℕ) → is_word_byte b ≡ true → IsFront (b ∷ bs) (word_front (prefix_len is_word_byte (b ∷ bs)))
word_form b bs h = by_room (leb (prefix_len is_word_byte (b ∷ bs)) 4096) refl
  where
    some : 1 ≤ prefix_len is_word_byte (b ∷ bs)
    some = let e : prefix_len is_word_byte (b ∷ bs) ≡ 1 + prefix_len is_word_byte bs = rw h refl in omega (arith, e)

    by_room : (x : Bool) → leb (prefix_len is_word_byte (b ∷ bs)) 4096 ≡ x
        → IsFront (b ∷ bs) (cond x (Piece kind.Word (prefix_len is_word_byte (b ∷ bs))) (Bad trouble.Long))
    by_room false e = tt
    by_room true e =
        let all = all_prefix is_word_byte (b ∷ bs) in
        let long = length-prefix_len is_word_byte (b ∷ bs) in
        let small = leb-true (prefix_len is_word_byte (b ∷ bs)) 4096 e in (
          (some, prefix_len-le-length is_word_byte (b ∷ bs), words_no_feed (take (prefix_len is_word_byte (b ∷ bs)) (b ∷ bs)) all),
          (omega (arith, some, long), omega (arith, small, long), all),
        )

comment_form : (b : ℕ) (bs : List ℕ) → (b == 10) ≡ false → IsFront (b ∷ bs) (Space (prefix_len is_no_feed (b ∷ bs)))
comment_form b bs h =
    let e : prefix_len is_no_feed (b ∷ bs) ≡ 1 + prefix_len is_no_feed bs = rw h refl in
    (omega (arith, e), prefix_len-le-length is_no_feed (b ∷ bs), all_prefix is_no_feed (b ∷ bs))

one_byte : (b : ℕ) (bs : List ℕ) → (b == 10) ≡ false → Runs 1 (b ∷ bs)
one_byte b bs h = (omega arith, omega arith, rw h refl)

by_test : (bs : List ℕ) (c : Bool) (f g : Front) → (c ≡ true → IsFront bs f) → (c ≡ false → IsFront bs g)
    → IsFront bs (cond c f g)
by_test bs true f g h k = h refl
by_test bs false f g h k = k refl

-- each front is the slice that it says
pub front_form : (first : Bool) (b : ℕ) (bs : List ℕ) → IsFront (b ∷ bs) (front first (b ∷ bs))
unfolding front
front_form first b bs =
    by_test (b ∷ bs) (b == 10) _ _ (λ e. eq_tells b 10 e) (λ feed.
    by_test (b ∷ bs) (first && b == 35) _ _ (λ e. comment_form b bs feed) (λ e.
    by_test (b ∷ bs) (is_blank b) _ _ (λ e2. one_byte b bs feed) (λ e2.
    by_test (b ∷ bs) (is_mark b) _ _ (λ mark. (one_byte b bs feed, (b, refl, mark))) (λ e3.
    by_test (b ∷ bs) (b == 34) _ _ (λ quote. text_at quote) (λ e4.
    by_test (b ∷ bs) (is_word_byte b) _ _ (λ is. word_form b bs is) (λ e5. tt))))))
  where
    text_at : (b == 34) ≡ true → IsFront (b ∷ bs) (text_front (text_width bs))
    text_at quote =
        let P : ℕ → Type 0 = λ x. IsFront (x ∷ bs) (text_front (text_width bs)) in
        subst P (sym (eq_tells b 34 quote)) (text_form bs (text_width bs) (inside bs))
