-- The width of a text, one byte of its value further.
use Rattle.std.proofs.Common.{◌≡◌, ◌≤◌, ◌<◌, ◌+◌, ◌&&◌, ◌==◌, cond, ℕ, Bool, true, false, List, [], ◌∷◌, length, drop}
use Rattle.std.proofs.Common.{get_or, Option, Some, None, length-drop, refl, ap, sym, ◌∙◌, arith}
use Rattle.std.proofs.lemmas.List.{drop-drop}
use Rattle.lemmas.proofs.Numbers.{eq_refused}
use Rattle.syntax.specs.Quotes.{is_escaped}
use Rattle.composer_lexer.specs.Tokens.{text_width, with_bytes, char_width}

by_escape : (c d : ℕ) (cs : List ℕ) (b : Bool) → (c == 92 && is_escaped d) ≡ b
    → cond b (with_bytes 2 1 (text_width cs)) (with_bytes 1 1 (text_width (d ∷ cs)))
    ≡ with_bytes (char_width (c ∷ d ∷ cs)) 1 (text_width (drop (char_width (c ∷ d ∷ cs)) (c ∷ d ∷ cs)))
by_escape c d cs true e = rw e refl
by_escape c d cs false e = rw e refl

step : (bs : List ℕ) → 0 < length bs → (get_or bs 0 0 == 34) ≡ false → (get_or bs 0 0 == 10) ≡ false
    → text_width bs ≡ with_bytes (char_width bs) 1 (text_width (drop (char_width bs) bs))
unfolding text_width
step [] some quote feed = absurd (omega arith)
step (c ∷ []) some quote feed = rw quote refl
step (c ∷ d ∷ cs) some quote feed = rw (quote, feed) (by_escape c d cs (c == 92 && is_escaped d) refl)

more : (a v n : ℕ) (o : Option (ℕ × ℕ)) → with_bytes (a + n) (v + 1) o ≡ with_bytes a v (with_bytes n 1 o)
more a v n None = refl
more a v n (Some (w, x)) =
    let first : w + (a + n) ≡ w + n + a = omega arith in
    let second : x + (v + 1) ≡ x + 1 + v = omega arith in
    rw (first, second) refl

pub text_step : (bytes : List ℕ) (at value n : ℕ) → at < length bytes → n ≡ char_width (drop at bytes)
    → 0 < length (drop at bytes) → (get_or (drop at bytes) 0 0 == 34) ≡ false
    → (get_or (drop at bytes) 0 0 == 10) ≡ false
    → with_bytes (at + n) (value + 1) (text_width (drop (at + n) bytes)) ≡ with_bytes at value (text_width (drop at bytes))
text_step bytes at value n here is some quote feed =
    more at value n (text_width (drop (at + n) bytes))
    ∙ ap (λ o. with_bytes at value o)
    (ap (λ zs. with_bytes n 1 (text_width zs)) (sym (drop-drop n at bytes))
    ∙ ap (λ k. with_bytes k 1 (text_width (drop k (drop at bytes)))) is
    ∙ sym (step (drop at bytes) some quote feed))

some_left : (at : ℕ) (bytes : List ℕ) → at < length bytes → 0 < length (drop at bytes)
some_left at bytes h = omega (arith, length-drop at bytes)

ends_quote : (bs : List ℕ) → 0 < length bs → get_or bs 0 0 ≡ 34 → text_width bs ≡ Some (1, 0)
unfolding text_width
ends_quote [] some quote = absurd (omega arith)
ends_quote (c ∷ []) some quote = rw quote refl
ends_quote (c ∷ d ∷ cs) some quote = rw quote refl

ends_feed : (bs : List ℕ) → 0 < length bs → get_or bs 0 0 ≡ 10 → text_width bs ≡ None
unfolding text_width
ends_feed [] some feed = absurd (omega arith)
ends_feed (c ∷ []) some feed = rw feed refl
ends_feed (c ∷ d ∷ cs) some feed = rw feed refl

ends_open : (bs : List ℕ) → length bs ≡ 0 → text_width bs ≡ None
unfolding text_width
ends_open [] h = refl
ends_open (c ∷ cs) h = absurd (omega arith)

-- the same in the words of the loop
pub at_quote : (bytes : List ℕ) (at value : ℕ) → at < length bytes → get_or (drop at bytes) 0 0 ≡ 34
    → with_bytes at value (text_width (drop at bytes)) ≡ text_width bytes → Some (at + 1, value) ≡ text_width bytes
at_quote bytes at value h quote same =
    let first : at + 1 ≡ 1 + at = omega arith in
    let second : value ≡ 0 + value = omega arith in
    ap (λ n. Some (n, value)) first ∙ ap (λ v. Some (1 + at, v)) second
    ∙ ap (λ o. with_bytes at value o) (sym (ends_quote (drop at bytes) (some_left at bytes h) quote)) ∙ same

pub at_feed : (bytes : List ℕ) (at value : ℕ) → at < length bytes → get_or (drop at bytes) 0 0 ≡ 10
    → with_bytes at value (text_width (drop at bytes)) ≡ text_width bytes → None ≡ text_width bytes
at_feed bytes at value h feed same =
    ap (λ o. with_bytes at value o) (sym (ends_feed (drop at bytes) (some_left at bytes h) feed)) ∙ same

pub at_end : (bytes : List ℕ) (at value : ℕ) → length bytes ≤ at
    → with_bytes at value (text_width (drop at bytes)) ≡ text_width bytes → None ≡ text_width bytes
at_end bytes at value h same =
    ap (λ o. with_bytes at value o) (sym (ends_open (drop at bytes) (omega (arith, length-drop at bytes)))) ∙ same

pub at_more : (bytes : List ℕ) (at value n : ℕ) → at < length bytes → n ≡ char_width (drop at bytes)
    → (get_or (drop at bytes) 0 0 ≡ 34 → ⊥) → (get_or (drop at bytes) 0 0 ≡ 10 → ⊥)
    → with_bytes at value (text_width (drop at bytes)) ≡ text_width bytes
    → with_bytes (at + n) (value + 1) (text_width (drop (at + n) bytes)) ≡ text_width bytes
at_more bytes at value n h is quote feed same =
    text_step bytes at value n h is (some_left at bytes h) (eq_refused (get_or (drop at bytes) 0 0) 34 quote)
    (eq_refused (get_or (drop at bytes) 0 0) 10 feed)
    ∙ same
