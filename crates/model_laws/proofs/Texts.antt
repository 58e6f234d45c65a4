-- What holds of texts as lists of bytes.
use Rattle.std.proofs.Common.{List, [], bytes_eq, eqb, refl, ℕ, ◌&&◌, ◌∷◌, ◌≡◌}
use Rattle.model.specs.Equalities.{text_eq}

-- texts compare byte by byte
pub text_bytes : (a b : List ℕ) → text_eq a b ≡ bytes_eq a b
text_bytes [] [] = refl
text_bytes [] (y ∷ ys) = refl
text_bytes (x ∷ xs) [] = refl
text_bytes (x ∷ xs) (y ∷ ys) = λ j. eqb x y && text_bytes xs ys j
