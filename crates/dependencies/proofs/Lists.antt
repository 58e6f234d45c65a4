-- What holds of each element of a list.
use Rattle.std.proofs.Common.{◌≡◌, ◌∷◌, [], Bool, List, cond, false, refl, true, Some}
use Rattle.std.specs.List.{AllByRecursion}
use Rattle.std.specs.Prelude.{IfSome, find}

-- what is found is one of them, and passes
pub all_found : {A : Type 0} (P : A → Type 0) (p : A → Bool) (xs : List A) → AllByRecursion P xs
    → IfSome (find p xs) (λ x. P x × (p x ≡ true))
all_found P p [] h = tt
all_found {A} P p (x ∷ xs) h = go (p x) refl (all_found P p xs h.1)
  where
    go : (b : Bool) → p x ≡ b → IfSome (find p xs) (λ (y : A). P y × (p y ≡ true))
        → IfSome (cond b (Some x) (find p xs)) (λ (y : A). P y × (p y ≡ true))
    go true e k = (h.0, e)
    go false e k = k
