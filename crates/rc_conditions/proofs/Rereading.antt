-- The canonical text of an expression has the tokens of the expression.
use Rattle.std.proofs.Common.{◌≡◌, ◌≢◌, ◌≤◌, ◌<◌, ◌+◌, ◌-◌, ◌^◌, ℕ, zero, suc, ℤ, pos, negsuc, Bool, true}
use Rattle.std.proofs.Common.{false, cond, eqb, leb, ltb, List, [], ◌∷◌, ◌++◌, map, length, take, get_or, Some}
use Rattle.std.proofs.Common.{codes, append_assoc, append-nil, FitsSigned, refl, ap, sym, ◌∙◌, arith}
use Rattle.std.specs.Char.{is_ascii_alphabetic, is_ascii_digit, to_ascii_lowercase}
use Rattle.std.specs.Fmt.{decimal, signed_decimal}
use Rattle.std.specs.Int.{w32}
use Rattle.std.specs.List.{list_all, prefix_len}
use Rattle.std.specs.Option.{option_map_or}
use Rattle.std.specs.Str.{bytes_eq, str_eq_ignore_ascii_case}
use Rattle.std.proofs.Math.Seq.{take-append_seam}
use Rattle.std.proofs.lemmas.Bool.Decides.{nat_tests}
use Rattle.std.proofs.lemmas.Fmt.{digits_decimal, digits_value-decimal, decimal_nonempty, decimal_digit}
use Rattle.std.proofs.lemmas.Fmt.{first_decimal}
use Rattle.lemmas.proofs.Booleans.{and_left, and_right}
use Rattle.lemmas.proofs.Texts.{decimal_digits}
use Rattle.model.specs.Types.{Rel, CondOp, Cmp, Eq, Ne, Lt, Le, Gt, Ge}
use Rattle.syntax.specs.Numbers.{signed_of, number_of, is_number, has_leading_zero}
use Rattle.rc_conditions.specs.declared.tokens.Token.{Token}
use Rattle.rc_conditions.specs.declared.tokens.Token.TheVariants as token
use Rattle.rc_conditions.specs.Expressions.{Expression, compared, negated, both, either, postfix, NumbersFit}
use Rattle.rc_conditions.specs.Grammar.{Disjunction, one_conjunction, joined_by_or, one_operand, joined_by_and}
use Rattle.rc_conditions.specs.Grammar.{comparison, in_parentheses, not_operand, disjunction_tokens}
use Rattle.rc_conditions.specs.Grammar.{disjunction_meaning, Reads, text_tokens}
use Rattle.rc_conditions.specs.Printing.{mark, printed}
use Rattle.rc_conditions.specs.Tokens.{Placed, tokens_behind, placed_tokens, token_of, mark_or_number, width}
use Rattle.rc_conditions.specs.Tokens.{is_blank}

-- the tokens without their places
abbrev kinds : ℕ → List ℕ → List Token
kinds taken [] = []
kinds (suc taken) (b ∷ bs) = kinds taken bs
kinds zero (b ∷ bs) =
    cond (is_blank b) (kinds 0 bs) (token_of (take (width (b ∷ bs)) (b ∷ bs)) ∷ kinds (width (b ∷ bs) - 1) bs)

by_blank : (t : Bool) (xs ys : List Placed) (p : Placed) (us vs : List Token)
    → map (λ (q : Placed). q.kind) xs ≡ us → map (λ (q : Placed). q.kind) ys ≡ vs
    → map (λ (q : Placed). q.kind) (cond t xs (p ∷ ys)) ≡ cond t us (p.kind ∷ vs)
by_blank true xs ys p us vs h k = h
by_blank false xs ys p us vs h k = ap (λ ts. p.kind ∷ ts) k

kinds_of : (taken place : ℕ) (bs : List ℕ)
    → map (λ (p : Placed). p.kind) (tokens_behind taken place bs) ≡ kinds taken bs
kinds_of taken place [] = refl
kinds_of (suc taken) place (b ∷ bs) = kinds_of taken (place + 1) bs
kinds_of zero place (b ∷ bs) =
    by_blank (is_blank b) (tokens_behind 0 (place + 1) bs) (tokens_behind (width (b ∷ bs) - 1) (place + 1) bs)
    (record { kind = token_of (take (width (b ∷ bs)) (b ∷ bs)); place = place }) (kinds 0 bs)
    (kinds (width (b ∷ bs) - 1) bs) (kinds_of 0 (place + 1) bs) (kinds_of (width (b ∷ bs) - 1) (place + 1) bs)

past : (xs rest : List ℕ) → kinds (length xs) (xs ++ rest) ≡ kinds 0 rest
past [] rest = refl
past (x ∷ xs) rest = past xs rest

-- the fixed parts of a text
rc_read : (bs : List ℕ) → kinds 0 (codes "RC " ++ bs) ≡ token.Rc ∷ kinds 0 bs
unfolding width token_of mark_or_number
rc_read bs = refl

not_read : (bs : List ℕ) → kinds 0 (codes "NOT (" ++ bs) ≡ token.Not ∷ token.Open ∷ kinds 0 bs
unfolding width token_of mark_or_number
not_read bs = refl

opening_read : (bs : List ℕ) → kinds 0 (codes "(" ++ bs) ≡ token.Open ∷ kinds 0 bs
unfolding width token_of mark_or_number
opening_read bs = refl

closing_read : (bs : List ℕ) → kinds 0 (codes ")" ++ bs) ≡ token.Close ∷ kinds 0 bs
unfolding width token_of mark_or_number
closing_read bs = refl

and_read : (bs : List ℕ) → kinds 0 (codes ") AND (" ++ bs) ≡ token.Close ∷ token.And ∷ token.Open ∷ kinds 0 bs
unfolding width token_of mark_or_number
and_read bs = refl

or_read : (bs : List ℕ) → kinds 0 (codes ") OR (" ++ bs) ≡ token.Close ∷ token.Or ∷ token.Open ∷ kinds 0 bs
unfolding width token_of mark_or_number
or_read bs = refl

mark_read : (r : Rel) (bs : List ℕ) → kinds 0 (mark r ++ codes " " ++ bs) ≡ token.Compare r ∷ kinds 0 bs
unfolding width token_of mark_or_number
mark_read Eq bs = refl
mark_read Ne bs = refl
mark_read Lt bs = refl
mark_read Le bs = refl
mark_read Gt bs = refl
mark_read Ge bs = refl

no_zero_first : (n : ℕ) → n < 2 ^ 32 → has_leading_zero (decimal n) ≡ false
no_zero_first zero fits = rw (decimal_digit 0 (omega arith)) refl
no_zero_first (suc n) fits =
    let first : 48 < get_or (decimal (suc n)) 0 0 = first_decimal (suc n) (omega arith) (omega arith) in
    grind (arith, nat_tests)

is_decimal : (n : ℕ) → n < 2 ^ 32 → is_number (decimal n) ≡ true
is_decimal n fits =
    let some = decimal_nonempty n (omega arith) in
    let plain = no_zero_first n fits in
    let digits = digits_decimal decimal_digits n (omega arith) in grind (arith, nat_tests)

number_read : (n : ℕ) → n < 2 ^ 32 → number_of 32 (decimal n) ≡ Some n
unfolding number_of
number_read n fits =
    let is = is_decimal n fits in
    let value = digits_value-decimal decimal_digits n (omega arith) in
    let small : ltb n (2 ^ 32) ≡ true = grind (arith, nat_tests) in rw (is, value, small) refl

-- a digit first, or a minus and a digit
first_digit : (ds : List ℕ) → list_all is_ascii_digit ds ≡ true → 0 < length ds
    → (48 ≤ get_or ds 0 0) × (get_or ds 0 0 ≤ 57)
first_digit [] all some = absurd (omega arith)
first_digit (d ∷ ds) all some = (grind (arith, nat_tests), grind (arith, nat_tests))

signed_read : (n : ℤ) → FitsSigned w32 n → signed_of (signed_decimal n) ≡ Some n
unfolding signed_of
signed_read (pos n) fits =
    let small : n < 2 ^ 31 = fits.sfits in
    let all = digits_decimal decimal_digits n (omega arith) in
    let first = first_digit (decimal n) all (decimal_nonempty n (omega arith)) in
    let plain : eqb (get_or (decimal n) 0 0) 45 ≡ false = grind (arith, nat_tests) in
    let found = number_read n (omega arith) in
    let low : ltb n (2 ^ 31) ≡ true = grind (arith, nat_tests) in rw (plain, found, low) refl
signed_read (negsuc n) fits =
    let small : n < 2 ^ 31 = fits.sfits in
    let found = number_read (suc n) (omega arith) in
    let low : leb (suc n) (2 ^ 31) ≡ true = grind (arith, nat_tests) in rw (found, low) refl

-- another first byte
other_first : (b c : ℕ) (bs cs : List ℕ) → b ≢ c → bytes_eq (b ∷ bs) (c ∷ cs) ≡ false
other_first b c bs cs h = let is : eqb b c ≡ false = grind (arith, nat_tests) in rw is refl

other_word : (b c : ℕ) (bs cs : List ℕ) → b < 65 → b ≢ to_ascii_lowercase c
    → str_eq_ignore_ascii_case (b ∷ bs) (c ∷ cs) ≡ false
other_word b c bs cs low h =
    let same : to_ascii_lowercase b ≡ b = grind (arith, nat_tests) in
    other_first (to_ascii_lowercase b) (to_ascii_lowercase c) (map to_ascii_lowercase bs) (map to_ascii_lowercase cs)
    (λ e. h (sym same ∙ e))

otherwise : (t : Bool) (x y : Token) → t ≡ false → cond t x y ≡ y
otherwise t x y h = rw h refl

number_token : (b : ℕ) (bs : List ℕ) (n : ℤ) → 45 ≤ b → b ≤ 57 → signed_of (b ∷ bs) ≡ Some n
    → token_of (b ∷ bs) ≡ token.Number n
unfolding token_of mark_or_number
number_token b bs n low high is =
    otherwise _ _ _ (other_word b 82 bs (codes "C") (omega arith) (λ e. omega (arith, e)))
    ∙ otherwise _ _ _ (other_word b 78 bs (codes "OT") (omega arith) (λ e. omega (arith, e)))
    ∙ otherwise _ _ _ (other_word b 65 bs (codes "ND") (omega arith) (λ e. omega (arith, e)))
    ∙ otherwise _ _ _ (other_word b 79 bs (codes "R") (omega arith) (λ e. omega (arith, e)))
    ∙ otherwise _ _ _ (other_first b 40 bs [] (λ e. omega (arith, e)))
    ∙ otherwise _ _ _ (other_first b 41 bs [] (λ e. omega (arith, e)))
    ∙ otherwise _ _ _ (other_first b 61 bs [] (λ e. omega (arith, e)))
    ∙ otherwise _ _ _ (other_first b 33 bs (codes "=") (λ e. omega (arith, e)))
    ∙ otherwise _ _ _ (other_first b 60 bs (codes ">") (λ e. omega (arith, e)))
    ∙ otherwise _ _ _ (other_first b 60 bs [] (λ e. omega (arith, e)))
    ∙ otherwise _ _ _ (other_first b 60 bs (codes "=") (λ e. omega (arith, e)))
    ∙ otherwise _ _ _ (other_first b 62 bs [] (λ e. omega (arith, e)))
    ∙ otherwise _ _ _ (other_first b 62 bs (codes "=") (λ e. omega (arith, e)))
    ∙ ap (λ o. option_map_or token.Number o token.Other) is

-- where the digits end
abbrev NoDigit : List ℕ → Type 0
NoDigit rest = is_ascii_digit (get_or rest 0 0) ≡ false

no_run : (rest : List ℕ) → NoDigit rest → prefix_len is_ascii_digit rest ≡ 0
no_run [] h = refl
no_run (b ∷ bs) h = rw h refl

digits_run : (ds rest : List ℕ) → list_all is_ascii_digit ds ≡ true → NoDigit rest
    → prefix_len is_ascii_digit (ds ++ rest) ≡ length ds
digits_run [] rest all end = no_run rest end
digits_run (d ∷ ds) rest all end =
    let here = and_left (is_ascii_digit d) (list_all is_ascii_digit ds) all in
    let more = digits_run ds rest (and_right (is_ascii_digit d) (list_all is_ascii_digit ds) all) end in
    rw here (omega (arith, more))

digits_width : (d : ℕ) (ds rest : List ℕ) → list_all is_ascii_digit (d ∷ ds) ≡ true → NoDigit rest
    → width ((d ∷ ds) ++ rest) ≡ length (d ∷ ds)
unfolding width
digits_width d ds rest all end =
    let first = first_digit (d ∷ ds) all (omega arith) in
    let letter : is_ascii_alphabetic d ≡ false = grind (arith, nat_tests) in
    let digit = and_left (is_ascii_digit d) (list_all is_ascii_digit ds) all in
    let run = digits_run ds rest (and_right (is_ascii_digit d) (list_all is_ascii_digit ds) all) end in
    rw letter (rw digit (omega (arith, run)))

minus_width : (ds rest : List ℕ) → list_all is_ascii_digit ds ≡ true → 0 < length ds → NoDigit rest
    → width ((45 ∷ ds) ++ rest) ≡ length (45 ∷ ds)
unfolding width
minus_width [] rest all some end = absurd (omega arith)
minus_width (d ∷ ds) rest all some end =
    let digit = and_left (is_ascii_digit d) (list_all is_ascii_digit ds) all in
    let run = digits_run ds rest (and_right (is_ascii_digit d) (list_all is_ascii_digit ds) all) end in
    rw digit (omega (arith, run))

word_read : (b : ℕ) (bs rest : List ℕ) (n : ℤ) → 45 ≤ b → b ≤ 57 → signed_of (b ∷ bs) ≡ Some n
    → width ((b ∷ bs) ++ rest) ≡ length (b ∷ bs) → kinds 0 ((b ∷ bs) ++ rest) ≡ token.Number n ∷ kinds 0 rest
word_read b bs rest n low high is long =
    let blank : is_blank b ≡ false = grind (arith, nat_tests) in
    rw blank
    (ap (λ w. token_of (take w ((b ∷ bs) ++ rest)) ∷ kinds (w - 1) (bs ++ rest)) long
    ∙ ap (λ xs. token_of xs ∷ kinds (length (b ∷ bs) - 1) (bs ++ rest)) (take-append_seam (b ∷ bs) rest)
    ∙ ap (λ t. t ∷ kinds (length (b ∷ bs) - 1) (bs ++ rest)) (number_token b bs n low high is)
    ∙ ap (λ k. token.Number n ∷ kinds k (bs ++ rest)) (less (length bs))
    ∙ ap (λ ts. token.Number n ∷ ts) (past bs rest))
  where
    less : (k : ℕ) → suc k - 1 ≡ k
    less k = omega arith

-- a decimal number, split at its first byte
by_bytes : (ds rest : List ℕ) (n : ℤ) → list_all is_ascii_digit ds ≡ true → 0 < length ds → signed_of ds ≡ Some n
    → NoDigit rest → kinds 0 (ds ++ rest) ≡ token.Number n ∷ kinds 0 rest
by_bytes [] rest n all some is end = absurd (omega arith)
by_bytes (d ∷ ds) rest n all some is end =
    let first = first_digit (d ∷ ds) all some in
    word_read d ds rest n (omega (arith, first.0)) (omega (arith, first.1)) is (digits_width d ds rest all end)

decimal_read : (n : ℤ) (rest : List ℕ) → FitsSigned w32 n → NoDigit rest
    → kinds 0 (signed_decimal n ++ rest) ≡ token.Number n ∷ kinds 0 rest
decimal_read (pos n) rest fits end =
    let small : n < 2 ^ 31 = fits.sfits in
    by_bytes (decimal n) rest (pos n) (digits_decimal decimal_digits n (omega arith)) (decimal_nonempty n (omega arith))
    (signed_read (pos n) fits) end
decimal_read (negsuc n) rest fits end =
    let small : n < 2 ^ 31 = fits.sfits in
    word_read 45 (decimal (suc n)) rest (negsuc n) (omega arith) (omega arith) (signed_read (negsuc n) fits)
    (minus_width (decimal (suc n)) rest (digits_decimal decimal_digits (suc n) (omega arith))
    (decimal_nonempty (suc n) (omega arith)) end)

-- the parts that the canonical text spells
abbrev pub spelled_by : Expression → Disjunction
spelled_by (compared r n) = one_conjunction (one_operand (comparison r n))
spelled_by (negated e) = one_conjunction (one_operand (not_operand (in_parentheses (spelled_by e))))
spelled_by (both e f) =
    one_conjunction (joined_by_and (one_operand (in_parentheses (spelled_by e))) (in_parentheses (spelled_by f)))
spelled_by (either e f) =
    joined_by_or (one_conjunction (one_operand (in_parentheses (spelled_by e))))
    (one_operand (in_parentheses (spelled_by f)))

means_again : (e : Expression) → disjunction_meaning (spelled_by e) ≡ e
means_again (compared r n) = refl
means_again (negated e) = ap negated (means_again e)
means_again (both e f) =
    ap (λ x. both x (disjunction_meaning (spelled_by f))) (means_again e) ∙ ap (both e) (means_again f)
means_again (either e f) =
    ap (λ x. either x (disjunction_meaning (spelled_by f))) (means_again e) ∙ ap (either e) (means_again f)

comparison_text : (r : Rel) (xs rest : List ℕ)
    → (codes "RC " ++ mark r ++ codes " " ++ xs) ++ rest ≡ codes "RC " ++ (mark r ++ codes " " ++ (xs ++ rest))
comparison_text r xs rest = simp append_assoc

inside_text : (start xs rest : List ℕ) → (start ++ xs ++ codes ")") ++ rest ≡ start ++ (xs ++ (codes ")" ++ rest))
inside_text start xs rest = simp append_assoc

joined_text : (xs joint ys rest : List ℕ) → (codes "(" ++ xs ++ joint ++ ys ++ codes ")") ++ rest
    ≡ codes "(" ++ (xs ++ (joint ++ (ys ++ (codes ")" ++ rest))))
joined_text xs joint ys rest = simp append_assoc

regroup : (xs ys : List Token) (t : Token) (zs : List Token)
    → xs ++ token.Close ∷ t ∷ token.Open ∷ (ys ++ token.Close ∷ zs)
    ≡ ((xs ++ token.Close ∷ []) ++ t ∷ (token.Open ∷ ys ++ token.Close ∷ [])) ++ zs
regroup xs ys t zs = simp append_assoc

text_read : (e : Expression) (rest : List ℕ) → NumbersFit e → NoDigit rest
    → kinds 0 (printed e ++ rest) ≡ disjunction_tokens (spelled_by e) ++ kinds 0 rest
text_read (compared r n) rest fits end =
    ap (λ bs. kinds 0 bs) (comparison_text r (signed_decimal n) rest)
    ∙ rc_read (mark r ++ codes " " ++ (signed_decimal n ++ rest))
    ∙ ap (λ ts. token.Rc ∷ ts) (mark_read r (signed_decimal n ++ rest)
    ∙ ap (λ ts. token.Compare r ∷ ts) (decimal_read n rest fits end))
text_read (negated e) rest fits end =
    ap (λ bs. kinds 0 bs) (inside_text (codes "NOT (") (printed e) rest)
    ∙ not_read (printed e ++ (codes ")" ++ rest))
    ∙ ap (λ ts. token.Not ∷ token.Open ∷ ts) (text_read e (codes ")" ++ rest) fits refl
    ∙ ap (λ ts. disjunction_tokens (spelled_by e) ++ ts) (closing_read rest)
    ∙ sym (append_assoc (disjunction_tokens (spelled_by e)) (token.Close ∷ []) (kinds 0 rest)))
text_read (both e f) rest fits end =
    let ds = disjunction_tokens (spelled_by e) in
    let es = disjunction_tokens (spelled_by f) in
    ap (λ bs. kinds 0 bs) (joined_text (printed e) (codes ") AND (") (printed f) rest)
    ∙ opening_read (printed e ++ (codes ") AND (" ++ (printed f ++ (codes ")" ++ rest))))
    ∙ ap (λ ts. token.Open ∷ ts)
    (text_read e (codes ") AND (" ++ (printed f ++ (codes ")" ++ rest))) fits.0 refl
    ∙ ap (λ ts. ds ++ ts) (and_read (printed f ++ (codes ")" ++ rest))
    ∙ ap (λ ts. token.Close ∷ token.And ∷ token.Open ∷ ts) (text_read f (codes ")" ++ rest) fits.1 refl
    ∙ ap (λ ts. es ++ ts) (closing_read rest)))
    ∙ regroup ds es token.And (kinds 0 rest))
text_read (either e f) rest fits end =
    let ds = disjunction_tokens (spelled_by e) in
    let es = disjunction_tokens (spelled_by f) in
    ap (λ bs. kinds 0 bs) (joined_text (printed e) (codes ") OR (") (printed f) rest)
    ∙ opening_read (printed e ++ (codes ") OR (" ++ (printed f ++ (codes ")" ++ rest))))
    ∙ ap (λ ts. token.Open ∷ ts)
    (text_read e (codes ") OR (" ++ (printed f ++ (codes ")" ++ rest))) fits.0 refl
    ∙ ap (λ ts. ds ++ ts) (or_read (printed f ++ (codes ")" ++ rest))
    ∙ ap (λ ts. token.Close ∷ token.Or ∷ token.Open ∷ ts) (text_read f (codes ")" ++ rest) fits.1 refl
    ∙ ap (λ ts. es ++ ts) (closing_read rest)))
    ∙ regroup ds es token.Or (kinds 0 rest))

-- what is printed is read back
pub printed_reads : (e : Expression) → NumbersFit e → Reads (printed e) (postfix e)
unfolding placed_tokens
printed_reads e fits =
    record {
      condition = spelled_by e;
      spelled =
          kinds_of 0 0 (printed e) ∙ ap (λ bs. kinds 0 bs) (sym (append-nil (printed e))) ∙ text_read e [] fits refl
          ∙ append-nil (disjunction_tokens (spelled_by e));
      means = ap postfix (sym (means_again e));
    }

pub zero_reads : Reads (codes "RC = 0") (Cmp Eq (pos 0) ∷ [])
unfolding placed_tokens width token_of mark_or_number signed_of number_of
zero_reads =
    record {
      condition = one_conjunction (one_operand (comparison Eq (pos 0)));
      spelled = refl;
      means = refl;
    }

pub reads_back : (text : List ℕ) (ops : List CondOp) (e : Expression) → text ≡ printed e → ops ≡ postfix e
    → NumbersFit e → Reads text ops
reads_back text ops e is means fits =
    let read = printed_reads e fits in
    record { condition = read.condition; spelled = ap text_tokens is ∙ read.spelled; means = means ∙ read.means }
