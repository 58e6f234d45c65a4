-- A text's opening quote.
use Rattle.std.proofs.Common.{◌≡◌, ◌≢◌, ℕ, List, [], ◌∷◌, None, refl, ap, arith}
use Rattle.std.proofs.lemmas.Bool.Decides.{nat_tests}
use Rattle.syntax.specs.Quotes.{quoted_of}

pub no_opening : (text : List ℕ) → ((rest : List ℕ) → text ≢ 34 ∷ rest) → None ≡ quoted_of text
unfolding quoted_of
no_opening [] h = refl
no_opening (c ∷ cs) h = let other : c ≢ 34 = λ e. h cs (ap (λ x. x ∷ cs) e) in grind (arith, nat_tests)
