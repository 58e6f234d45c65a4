-- What of a list is still to come in a walk over it.
use Rattle.std.proofs.Common.{[], ℕ, ◌+◌, ◌∷◌, ◌≡◌, Bool, List, Some, add-one, ap, drop, false}
use Rattle.std.proofs.Common.{suc, true, zero}
use Rattle.std.specs.Prelude.{slice_get}
use Rattle.lemmas.proofs.Options.{some_same}

-- a test that answers both ways
pub clash : {A : Type 0} {b : Bool} → b ≡ true → b ≡ false → A
clash x y = cc

-- the next one stands before the others
pub left_some : {X : Type 0} (xs : List X) (i : ℕ) (x : X) → slice_get xs i ≡ Some x
    → drop i xs ≡ x ∷ drop (i + 1) xs
left_some xs i x e = rw add-one (go xs i x e)
  where
    go : {X : Type 0} (xs : List X) (i : ℕ) (x : X) → slice_get xs i ≡ Some x → drop i xs ≡ x ∷ drop (suc i) xs
    go [] i x e = cc
    go (y ∷ xs) zero x e = ap (λ z. z ∷ xs) (some_same y x e)
    go (y ∷ xs) (suc i) x e = go xs i x e
