-- Texts that do not end in a `]`, and texts that do not end in `;noask`.
use Rattle.std.proofs.Common.{◌≡◌, ◌≢◌, ◌<◌, ◌-◌, ◌+◌, ℕ, List, [], ◌∷◌, ◌++◌, length, take, get_or, eqb, false}
use Rattle.std.proofs.Common.{None, sym, ap, ◌∙◌, refl, arith, codes}
use Rattle.std.proofs.Math.Seq.{take-length}
use Rattle.std.proofs.lemmas.List.{take_more}
use Rattle.std.proofs.lemmas.Bool.Decides.{nat_tests}
use Rattle.std.specs.List.{ends_with}
use Rattle.conman_syntax.specs.Arguments.{without_noask}
use Rattle.conman_syntax.specs.References.{bracketed_of}

joined : (bs : List ℕ) → 0 < length bs → get_or bs (length bs - 1) 0 ≡ 93 → bs ≡ take (length bs - 1) bs ++ 93 ∷ []
joined bs pos at =
    let one : length bs ≡ length bs - 1 + 1 = omega arith in
    sym (take-length bs) ∙ ap (λ k. take k bs) one ∙ take_more bs (length bs - 1) 0 (omega arith)
    ∙ ap (λ x. take (length bs - 1) bs ++ x ∷ []) at

not_last : (bs : List ℕ) → ((front : List ℕ) → bs ≢ front ++ 93 ∷ []) → eqb (get_or bs (length bs - 1) 0) 93 ≡ false
not_last [] h = refl
not_last (b ∷ bs) h =
    let other : get_or (b ∷ bs) (length (b ∷ bs) - 1) 0 ≢ 93 =
    λ e. h (take (length (b ∷ bs) - 1) (b ∷ bs)) (joined (b ∷ bs) (omega arith) e) in
    grind (arith, nat_tests)

pub no_bracket : (bs : List ℕ) → ((front : List ℕ) → bs ≢ front ++ 93 ∷ []) → None ≡ bracketed_of bs
unfolding bracketed_of
no_bracket bs h = rw (not_last bs h) refl

pub no_noask : (bs : List ℕ) → false ≡ ends_with eqb bs (codes ";noask") → bs ≡ without_noask bs
no_noask bs h = rw (sym h) refl
