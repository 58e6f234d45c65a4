-- Quoted texts, read with their limit and without it.
use Rattle.std.proofs.Common.{◌≡◌, ◌≢◌, ◌≤◌, ◌-◌, ℕ, Bool, true, false, cond, ◌&&◌, eqb, List, [], ◌∷◌, length, take, drop, get_or, Option, Some, None, option_map, ap, ◌∙◌, refl, arith}
use Rattle.std.specs.Prelude.{is_some, option_and_then, nat_le}
use Rattle.std.proofs.lemmas.Bool.Decides.{nat_tests}
use Rattle.lemmas.proofs.Lists.{behind_first}
use Rattle.lemmas.proofs.Texts.{no_quote}
use Rattle.syntax.specs.Quotes.{byte_of, after_byte, unquoted, quoted_of, within_limit}
use Rattle.syntax.proofs.Escapes.{unquoted_more}
use Rattle.record_rows.specs.declared.rows.Ranged.{Ranged}
use Rattle.record_rows.specs.declared.rows.Ranged.TheVariants.{Within, OutOfRange}
use Rattle.record_rows.specs.Words.{text_of, is_quoted, limited}

-- the answer from both readings
abbrev pub joined : Option (List ℕ) → Bool → Option (Ranged (List ℕ))
joined (Some value) any = Some (Within value)
joined None true = Some OutOfRange
joined None false = None

by_limit : (b : Bool) (value : List ℕ)
    → Some (cond b (Within value) OutOfRange) ≡ joined (cond b (Some value) None) true
by_limit true value = refl
by_limit false value = refl

by_value : (o : Option (List ℕ)) → option_map limited o ≡ joined (option_and_then within_limit o) (is_some o)
by_value None = refl
by_value (Some value) = by_limit (nat_le (length value) 4096) value

by_quote : (b : Bool) (o : Option (List ℕ))
    → cond b (option_map limited o) None
    ≡ joined (cond b (option_and_then within_limit o) None) (b && is_some o)
by_quote true o = by_value o
by_quote false o = refl

both_readings : (text : List ℕ) → text_of text ≡ joined (quoted_of text) (is_quoted text)
unfolding text_of quoted_of
both_readings [] = refl
both_readings (c ∷ cs) = by_quote (eqb c 34) (unquoted cs)

pub text_within : (text value : List ℕ) → quoted_of text ≡ Some value → text_of text ≡ Some (Within value)
text_within text value e = both_readings text ∙ ap (λ o. joined o (is_quoted text)) e

above : (text : List ℕ) (b : Bool) → quoted_of text ≡ None → is_quoted text ≡ b → text_of text ≡ joined None b
above text b e q = both_readings text ∙ ap (λ o. joined o (is_quoted text)) e ∙ ap (λ t. joined None t) q

pub text_longer : (text : List ℕ) → quoted_of text ≡ None → is_quoted text ≡ true → text_of text ≡ Some OutOfRange
text_longer text e q = above text true e q

pub text_none : (text : List ℕ) → quoted_of text ≡ None → is_quoted text ≡ false → text_of text ≡ None
text_none text e q = above text false e q

some_map : {A B : Type 0} (f : A → B) (o : Option A) → is_some (option_map f o) ≡ is_some o
some_map f None = refl
some_map f (Some a) = refl

-- one byte or escape more, in the words of the loop
pub closed_more : (inside rest after : List ℕ) → 1 ≤ length rest → get_or rest 0 0 ≢ 34
    → after ≡ after_byte (get_or rest 0 0) (take (length rest - 1) (drop 1 rest))
    → is_some (unquoted inside) ≡ is_some (unquoted rest)
    → is_some (unquoted inside) ≡ is_some (unquoted after)
closed_more inside [] after l n ae inv = absurd (omega (arith, l))
closed_more inside (c ∷ cs) after l n ae inv =
    let t = behind_first c cs in
    rw (ae, t)
    (inv ∙ ap is_some (unquoted_more c cs (no_quote c n))
    ∙ some_map (λ v. byte_of c cs ∷ v) (unquoted (after_byte c cs)))

some_left : (d : ℕ) (cs : List ℕ) → eqb (length (d ∷ cs)) 0 ≡ false
some_left d cs = grind (arith, nat_tests)

-- the closing quote is the last byte, or it is none
pub closed_here : (inside rest : List ℕ) → 1 ≤ length rest → get_or rest 0 0 ≡ 34
    → is_some (unquoted inside) ≡ is_some (unquoted rest)
    → eqb (length (take (length rest - 1) (drop 1 rest))) 0 ≡ is_some (unquoted inside)
unfolding unquoted
closed_here inside [] l q inv = absurd (omega (arith, l))
closed_here inside (c ∷ []) l q inv = rw (inv, q) refl
closed_here inside (c ∷ d ∷ cs) l q inv = let t = behind_first c (d ∷ cs) in rw (t, inv, q) (some_left d cs)
