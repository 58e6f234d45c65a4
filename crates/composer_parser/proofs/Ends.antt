-- Texts that do not begin with a `-`, and texts that do not end in a `;`.
use Rattle.std.proofs.Common.{◌≡◌, ◌≢◌, ◌<◌, ◌-◌, ◌+◌, cond, ℕ, false, List, [], ◌∷◌, ◌++◌, length, take, drop, get_or, eqb}
use Rattle.std.proofs.Common.{Some, None, sym, ap, ◌∙◌, refl, arith}
use Rattle.std.proofs.Math.Seq.{take-length}
use Rattle.std.proofs.lemmas.List.{take_more}
use Rattle.std.proofs.lemmas.Bool.Decides.{nat_tests}
use Rattle.lemmas.proofs.Texts.{not_first}
use Rattle.syntax.specs.Numbers.{is_number}
use Rattle.composer_parser.specs.Kinds.{is_minus, is_plus, is_offset}
use Rattle.composer_parser.specs.Parts.{capped}
use Rattle.composer_parser.specs.Rules.{without_last, is_month_day}

joined : (bs : List ℕ) → 0 < length bs → get_or bs (length bs - 1) 0 ≡ 59 → bs ≡ take (length bs - 1) bs ++ 59 ∷ []
joined bs pos at =
    let one : length bs ≡ length bs - 1 + 1 = omega arith in
    sym (take-length bs) ∙ ap (λ k. take k bs) one ∙ take_more bs (length bs - 1) 0 (omega arith)
    ∙ ap (λ x. take (length bs - 1) bs ++ x ∷ []) at

not_last : (bs : List ℕ) → ((front : List ℕ) → bs ≢ front ++ 59 ∷ []) → eqb (get_or bs (length bs - 1) 0) 59 ≡ false
not_last [] h = refl
not_last (b ∷ bs) h =
    let other : get_or (b ∷ bs) (length (b ∷ bs) - 1) 0 ≢ 59 =
    λ e. h (take (length (b ∷ bs) - 1) (b ∷ bs)) (joined (b ∷ bs) (omega arith) e) in
    grind (arith, nat_tests)

pub no_end : (bs : List ℕ) → ((front : List ℕ) → bs ≢ front ++ 59 ∷ []) → bs ≡ without_last bs
no_end bs h = rw (not_last bs h) refl

not_plus : (bs : List ℕ) → ((rest : List ℕ) → bs ≢ 43 ∷ rest) → eqb (get_or bs 0 0) 43 ≡ false
not_plus [] h = refl
not_plus (b ∷ bs) h =
    let other : b ≢ 43 = λ e. h bs (ap (λ n. n ∷ bs) e) in grind (arith, nat_tests)

pub no_sign : (bs : List ℕ) → ((rest : List ℕ) → bs ≢ 45 ∷ rest) → is_number bs ≡ is_month_day bs
unfolding is_month_day
no_sign bs h = rw (not_first bs h) refl

pub no_minus : (bs : List ℕ) → ((rest : List ℕ) → bs ≢ 45 ∷ rest)
    → None ≡ cond (is_minus bs) (Some (capped (drop 1 bs))) None
unfolding is_minus
no_minus bs h = rw (not_first bs h) refl

pub no_plus : (bs : List ℕ) → ((rest : List ℕ) → bs ≢ 43 ∷ rest)
    → None ≡ cond (is_plus bs) (Some (capped (drop 1 bs))) None
unfolding is_plus
no_plus bs h = rw (not_plus bs h) refl

pub no_offset : (bs : List ℕ) → ((rest : List ℕ) → bs ≢ 43 ∷ rest)
    → cond (is_minus bs) (Some (capped (drop 1 bs))) None ≡ cond (is_offset bs) (Some (capped (drop 1 bs))) None
unfolding is_offset
no_offset bs h = rw (not_plus bs h) refl
