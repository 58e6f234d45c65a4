-- Lists over the numbers below a bound.
use Rattle.std.proofs.Common.{◌≡◌, ℕ, ◌<◌, List, [], ◌∷◌, map, length, get_or, refl, ap, ◌∙◌, arith}
use Rattle.std.proofs.lemmas.List.FromFn.{get_or-map-range_with_len, length-map-range_with_len}
use Rattle.model_laws.proofs.Numbers.{numbers-range}
use Rattle.model.specs.Words.{below}

pub map_below_at : {X : Type 0} (f : ℕ → X) (n k : ℕ) (d : X) → k < n → get_or (map f (below n)) k d ≡ f k
map_below_at f n k d low =
    ap (λ l. get_or (map f l) k d) (numbers-range 0 n) ∙ get_or-map-range_with_len f 0 n k k d low (omega arith)

pub length_map_below : {X : Type 0} (f : ℕ → X) (n : ℕ) → length (map f (below n)) ≡ n
length_map_below f n = ap (λ l. length (map f l)) (numbers-range 0 n) ∙ length-map-range_with_len f 0 n

map_itself : (xs : List ℕ) → map (λ i. i) xs ≡ xs
map_itself [] = refl
map_itself (x ∷ xs) = ap (λ l. x ∷ l) (map_itself xs)
