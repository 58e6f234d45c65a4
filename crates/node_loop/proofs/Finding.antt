-- The first item of a list that passes a test, and what is found once the list has changed.
use Rattle.std.proofs.Common.{[], ap, refl, ℕ, ◌∙◌, ◌≡◌, ◌||◌, ◌∷◌, Bool, List, None, Option, Some, cond, false, suc}
use Rattle.std.proofs.Common.{sym, take, true, zero}
use Rattle.std.specs.List.{find, list_any}
use Rattle.std.specs.Prelude.{slice_get, slice_set}

-- an item that fails is passed over
past : {X : Type 0} (b rest : Bool) (x : X) (o found : Option X) → (b || rest) ≡ false → (rest ≡ false → o ≡ found)
    → cond b (Some x) o ≡ found
past true rest x o found none behind = cc
past false rest x o found none behind = behind none

pub found_none : {X : Type 0} (p : X → Bool) (xs : List X) → list_any p xs ≡ false → find p xs ≡ None
found_none p [] none = refl
found_none p (x ∷ xs) none = past (p x) (list_any p xs) x (find p xs) None none (found_none p xs)

pub found_first : {X : Type 0} (p : X → Bool) (xs : List X) (i : ℕ) (y : X) → slice_get xs i ≡ Some y → p y ≡ true
    → list_any p (take i xs) ≡ false → find p xs ≡ Some y
found_first p [] i y is passes none = cc
found_first p (x ∷ xs) zero y is passes none =
    let same : x ≡ y = cc in
    ap (λ (b : Bool). cond b (Some x) (find p xs)) (ap p same ∙ passes) ∙ is
found_first p (x ∷ xs) (suc i) y is passes none =
    past (p x) (list_any p (take i xs)) x (find p xs) (Some y) none (found_first p xs i y is passes)

-- another item in the place of the first that passes, which passes too
pub found_put : {X : Type 0} (p : X → Bool) (xs : List X) (i : ℕ) (y z : X) → slice_get xs i ≡ Some y → p z ≡ true
    → list_any p (take i xs) ≡ false → find p (slice_set xs i z) ≡ Some z
found_put p [] i y z is passes none = cc
found_put p (x ∷ xs) zero y z is passes none = ap (λ (b : Bool). cond b (Some z) (find p xs)) passes
found_put p (x ∷ xs) (suc i) y z is passes none =
    past (p x) (list_any p (take i xs)) x (find p (slice_set xs i z)) (Some z) none (found_put p xs i y z is passes)

-- an item that fails in the place of another
pub found_past : {X : Type 0} (p : X → Bool) (xs : List X) (i : ℕ) (y z : X) → slice_get xs i ≡ Some y → p y ≡ false
    → p z ≡ false → find p (slice_set xs i z) ≡ find p xs
found_past p [] i y z is old new = refl
found_past p (x ∷ xs) zero y z is old new =
    let same : x ≡ y = cc in
    ap (λ (b : Bool). cond b (Some z) (find p xs)) new
    ∙ sym (ap (λ (b : Bool). cond b (Some x) (find p xs)) (ap p same ∙ old))
found_past p (x ∷ xs) (suc i) y z is old new = ap (λ (o : Option _). cond (p x) (Some x) o) (found_past p xs i y z is old new)

-- where nothing is found, none passes
pub none_passes : {X : Type 0} (p : X → Bool) (xs : List X) → find p xs ≡ None → list_any p xs ≡ false
none_passes p [] is = refl
none_passes p (x ∷ xs) is = step (p x) x (find p xs) (list_any p xs) is (none_passes p xs)
  where
    step : {X : Type 0} (b : Bool) (x : X) (o : Option X) (rest : Bool) → cond b (Some x) o ≡ None
        → (o ≡ None → rest ≡ false) → (b || rest) ≡ false
    step true x o rest is behind = cc
    step false x o rest is behind = behind is
