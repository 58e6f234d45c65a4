-- Words on lists.
use Rattle.std.specs.Prelude.{[], ℕ, ◌==◌, ◌∷◌, ◌≡◌, ◌⊎◌, List, cond}

-- x is one of them
abbrev pub Among : {X : Type 0} → X → List X → Type 0
Among x [] = ⊥
Among x (y ∷ ys) = (x ≡ y) ⊎ Among x ys

-- each of them comes before all later ones
abbrev pub InOrder : {X : Type 0} → (X → X → Type 0) → List X → Type 0
InOrder Before [] = Unit {0}
InOrder {X} Before (x ∷ xs) = ((y : X) → Among y xs → Before x y) × InOrder Before xs

-- the numbers without the first that is n
abbrev pub without : ℕ → List ℕ → List ℕ
without n [] = []
without n (x ∷ xs) = cond (n == x) xs (x ∷ without n xs)
