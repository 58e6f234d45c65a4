-- The line feed at a text's end.
use Rattle.std.proofs.Common.{◌≡◌, ◌≢◌, ◌<◌, ◌-◌, ◌+◌, ℕ, List, [], ◌∷◌, ◌++◌, length, take, get_or, sym, ap, ◌∙◌, refl, arith}
use Rattle.std.proofs.Math.Seq.{take-length}
use Rattle.std.proofs.lemmas.List.{take_more}
use Rattle.std.proofs.lemmas.Bool.Decides.{nat_tests}
use Rattle.syntax.specs.Splits.{without_last_feed}

joined : (bs : List ℕ) → 0 < length bs → get_or bs (length bs - 1) 0 ≡ 10 → bs ≡ take (length bs - 1) bs ++ 10 ∷ []
joined bs pos at =
    let one : length bs ≡ length bs - 1 + 1 = omega arith in
    sym (take-length bs) ∙ ap (λ k. take k bs) one ∙ take_more bs (length bs - 1) 0 (omega arith)
    ∙ ap (λ x. take (length bs - 1) bs ++ x ∷ []) at

by_test : (bs : List ℕ) → ((front : List ℕ) → bs ≢ front ++ 10 ∷ []) → 0 < length bs → bs ≡ without_last_feed bs
by_test bs h pos = let f = h (take (length bs - 1) bs) in let g = joined bs pos in grind (arith, nat_tests)

pub no_last_feed : (bs : List ℕ) → ((front : List ℕ) → bs ≢ front ++ 10 ∷ []) → bs ≡ without_last_feed bs
no_last_feed [] h = refl
no_last_feed (b ∷ bs) h = by_test (b ∷ bs) h (omega arith)
