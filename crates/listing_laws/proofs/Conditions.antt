-- The canonical text of a condition stands on a line, and is read back.
use Rattle.std.proofs.Common.{◌≡◌, ◌≤◌, ◌<◌, ◌*◌, ◌^◌, inl, inr, ℕ, zero, suc, ℤ, pos, negsuc, Bool, true, ◌&&◌, leb}
use Rattle.std.proofs.Common.{List, [], ◌∷◌, ◌++◌, length, Ok, refl, ap, sym, subst, ◌∙◌, arith, codes, append-nil, length-append, FitsSigned}
use Rattle.std.proofs.Common.{get_or, if◌then◌else◌}
use Rattle.std.specs.Char.{is_ascii_digit}
use Rattle.std.specs.Fmt.{decimal, signed_decimal}
use Rattle.std.specs.Int.{w32}
use Rattle.std.specs.List.{list_all}
use Rattle.std.proofs.lemmas.Bool.Decides.{nat_tests}
use Rattle.std.proofs.lemmas.Fmt.{digits_decimal, length-decimal-le}
use Rattle.std.proofs.lemmas.List.Folds.{list_all-append}
use Rattle.std.proofs.lemmas.Str.{IsUtf8-from_ascii, is_utf8-from_IsUtf8}
use Rattle.lemmas.proofs.Booleans.{and_made, and_parts}
use Rattle.lemmas.proofs.Numbers.{le_told}
use Rattle.lemmas.proofs.Texts.{decimal_digits}
use Rattle.history_laws.specs.Printables.{IsLineText, is_no_feed}
use Rattle.model.specs.Types.{CondOp, And, Not, Or, Rel, Eq, Ne, Lt, Le, Gt, Ge}
use Rattle.plan_listing.specs.Conditions.{cond_text, only, texts_of}
use Rattle.plan_listing.proofs.Texts.{text_of_expression}
use Rattle.rc_conditions.specs.Expressions.{Expression, NumbersFit, both, compared, either, negated, postfix}
use Rattle.rc_conditions.specs.Machine.{read_of}
use Rattle.rc_conditions.specs.Printing.{mark, printed}
use Rattle.rc_conditions.proofs.Readings.{cause_is_read}
use Rattle.rc_conditions.proofs.Rereading.{printed_reads}
use Rattle.listing_laws.specs.Listables.{IsExpression, IsListableCond}
use Rattle.listing_laws.proofs.ObjectLines.{IsCondLine}

-- Bytes from 32 to 126.

abbrev is_clear : ℕ → Bool
is_clear b = leb 32 b && leb b 126

abbrev Clear : List ℕ → Type 0
Clear w = list_all is_clear w ≡ true

clear_both : (a b : List ℕ) → Clear a → Clear b → Clear (a ++ b)
clear_both a b h k = list_all-append is_clear a b ∙ and_made (list_all is_clear a) (list_all is_clear b) h k

digit_clear : (b : ℕ) → is_ascii_digit b ≡ true → is_clear b ≡ true
digit_clear b h = grind (arith, nat_tests)

digits_clear : (w : List ℕ) → list_all is_ascii_digit w ≡ true → Clear w
digits_clear [] h = refl
digits_clear (b ∷ w) h =
    let parts = and_parts (is_ascii_digit b) (list_all is_ascii_digit w) h in
    and_made (is_clear b) (list_all is_clear w) (digit_clear b parts.0) (digits_clear w parts.1)

number_clear : (k : ℕ) → k < 2 ^ 64 → Clear (decimal k)
number_clear k h = digits_clear (decimal k) (digits_decimal decimal_digits k h)

-- numbers of 32 bits
signed_clear : (z : ℤ) → FitsSigned w32 z → Clear (signed_decimal z)
signed_clear (pos k) fits = let small : k < 2 ^ 31 = fits.sfits in number_clear k (omega (arith, small))
signed_clear (negsuc k) fits =
    let small : k < 2 ^ 31 = fits.sfits in
    clear_both (45 ∷ []) (decimal (suc k)) refl (number_clear (suc k) (omega (arith, small)))

number_short : (k : ℕ) → k < 2 ^ 32 → length (decimal k) ≤ 10
number_short k h = length-decimal-le 10 k (omega arith) (omega (arith, h)) (omega (arith, h))

signed_short : (z : ℤ) → FitsSigned w32 z → length (signed_decimal z) ≤ 11
signed_short (pos k) fits =
    let small : k < 2 ^ 31 = fits.sfits in
    let few = number_short k (omega (arith, small)) in omega (arith, few)
signed_short (negsuc k) fits =
    let small : k < 2 ^ 31 = fits.sfits in
    let few = number_short (suc k) (omega (arith, small)) in omega (arith, few)

mark_clear : (r : Rel) → Clear (mark r)
mark_clear Eq = refl
mark_clear Ne = refl
mark_clear Lt = refl
mark_clear Le = refl
mark_clear Gt = refl
mark_clear Ge = refl

mark_short : (r : Rel) → length (mark r) ≤ 2
mark_short Eq = omega arith
mark_short Ne = omega arith
mark_short Lt = omega arith
mark_short Le = omega arith
mark_short Gt = omega arith
mark_short Ge = omega arith

-- The text of an expression.

printed_clear : (e : Expression) → NumbersFit e → Clear (printed e)
printed_clear (compared r z) h =
    clear_both (codes "RC " ++ mark r ++ codes " ") (signed_decimal z)
    (clear_both (codes "RC " ++ mark r) (codes " ") (clear_both (codes "RC ") (mark r) refl (mark_clear r)) refl)
    (signed_clear z h)
printed_clear (negated e) h =
    clear_both (codes "NOT (" ++ printed e) (codes ")") (clear_both (codes "NOT (") (printed e) refl (printed_clear e h)) refl
printed_clear (both e f) h =
    clear_both (codes "(" ++ printed e ++ codes ") AND (" ++ printed f) (codes ")")
    (clear_both (codes "(" ++ printed e ++ codes ") AND (") (printed f)
    (clear_both (codes "(" ++ printed e) (codes ") AND (") (clear_both (codes "(") (printed e) refl (printed_clear e h.0)) refl)
    (printed_clear f h.1)) refl
printed_clear (either e f) h =
    clear_both (codes "(" ++ printed e ++ codes ") OR (" ++ printed f) (codes ")")
    (clear_both (codes "(" ++ printed e ++ codes ") OR (") (printed f)
    (clear_both (codes "(" ++ printed e) (codes ") OR (") (clear_both (codes "(") (printed e) refl (printed_clear e h.0)) refl)
    (printed_clear f h.1)) refl

-- an operation has at most 18 bytes
printed_short : (e : Expression) → NumbersFit e → length (printed e) ≤ 18 * length (postfix e)
printed_short (compared r z) h =
    let sign = mark_short r in
    let digits = signed_short z h in
    omega (
      arith,
      sign,
      digits,
      length-append (codes "RC ") (mark r),
      length-append (codes "RC " ++ mark r) (codes " "),
      length-append (codes "RC " ++ mark r ++ codes " ") (signed_decimal z),
    )
printed_short (negated e) h =
    let inner = printed_short e h in
    let ops = length-append (postfix e) (Not ∷ []) in
    omega (arith, inner, ops, length-append (codes "NOT (") (printed e), length-append (codes "NOT (" ++ printed e) (codes ")"))
printed_short (both e f) h =
    let left = printed_short e h.0 in
    let right = printed_short f h.1 in
    let ops = length-append (postfix e ++ postfix f) (And ∷ []) in
    omega (
      arith,
      left,
      right,
      ops,
      length-append (postfix e) (postfix f),
      length-append (codes "(") (printed e),
      length-append (codes "(" ++ printed e) (codes ") AND ("),
      length-append (codes "(" ++ printed e ++ codes ") AND (") (printed f),
      length-append (codes "(" ++ printed e ++ codes ") AND (" ++ printed f) (codes ")"),
    )
printed_short (either e f) h =
    let left = printed_short e h.0 in
    let right = printed_short f h.1 in
    let ops = length-append (postfix e ++ postfix f) (Or ∷ []) in
    omega (
      arith,
      left,
      right,
      ops,
      length-append (postfix e) (postfix f),
      length-append (codes "(") (printed e),
      length-append (codes "(" ++ printed e) (codes ") OR ("),
      length-append (codes "(" ++ printed e ++ codes ") OR (") (printed f),
      length-append (codes "(" ++ printed e ++ codes ") OR (" ++ printed f) (codes ")"),
    )

-- bytes of that kind are characters, and no line feeds
clear_feed : (b : ℕ) → is_clear b ≡ true → is_no_feed b ≡ true
clear_feed b h = grind (arith, nat_tests)

clear_feeds : (w : List ℕ) → Clear w → list_all is_no_feed w ≡ true
clear_feeds [] h = refl
clear_feeds (b ∷ w) h =
    let parts = and_parts (is_clear b) (list_all is_clear w) h in
    and_made (is_no_feed b) (list_all is_no_feed w) (clear_feed b parts.0) (clear_feeds w parts.1)

clear_low : (b : ℕ) → is_clear b ≡ true → b < 128
clear_low b h = grind (arith, nat_tests)

low_at : (w : List ℕ) → Clear w → (i : ℕ) → get_or w i 0 < 128
low_at [] h i = omega arith
low_at (b ∷ w) h zero = clear_low b (and_parts (is_clear b) (list_all is_clear w) h).0
low_at (b ∷ w) h (suc i) = low_at w (and_parts (is_clear b) (list_all is_clear w) h).1 i

clear_line : (w : List ℕ) → Clear w → length w ≤ 4096 → IsLineText w
clear_line w h room =
    record { utf8 = is_utf8-from_IsUtf8 w (IsUtf8-from_ascii w (low_at w h)); room = room; line = clear_feeds w h }

-- The text of a list of operations that is an expression.

text_is : (e : Expression) (op : CondOp) (ops : List CondOp) → op ∷ ops ≡ postfix e → length (op ∷ ops) ≤ 64
    → cond_text (op ∷ ops) ≡ printed e
text_is e op ops is few =
    ap (λ b. if b then only (texts_of (op ∷ ops) []) else []) (le_told (length (op ∷ ops)) 64 few)
    ∙ text_of_expression e (op ∷ ops) (is ∙ sym (append-nil (postfix e)))

expression_line : (op : CondOp) (ops : List CondOp) → IsExpression (op ∷ ops) → IsCondLine (op ∷ ops)
expression_line op ops h =
    let e : Expression = h.expression in
    let text : cond_text (op ∷ ops) ≡ printed e = text_is e op ops h.is h.few in
    let count : length (op ∷ ops) ≡ length (postfix e) = ap length h.is in
    let few = h.few in
    let short = printed_short e h.fits in
    let ops_few : length (postfix e) ≤ 64 = omega (arith, few, count) in
    let back : read_of (printed e) ≡ Ok (postfix e) =
    cause_is_read (printed e) (Ok (postfix e)) (printed_reads e h.fits, ops_few) in (
      subst IsLineText (sym text) (clear_line (printed e) (printed_clear e h.fits) (omega (arith, short, ops_few))),
      ap read_of text ∙ back ∙ ap Ok (sym h.is),
    )

no_first_op : (op : CondOp) (ops : List CondOp) → op ∷ ops ≡ [] → ⊥
no_first_op op ops e = cc

pub cond_line_of : (ops : List CondOp) → IsListableCond ops → IsCondLine ops
cond_line_of [] h = tt
cond_line_of (op ∷ ops) (inl none) = absurd (no_first_op op ops none)
cond_line_of (op ∷ ops) (inr h) = expression_line op ops h
