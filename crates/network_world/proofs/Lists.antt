-- Lists of which one item is changed, and items by their numbers.
use Rattle.std.proofs.Common.{◌≡◌, ◌≢◌, ◌∷◌, ◌+◌, ◌-◌, ◌<◌, ◌++◌, ◌∙◌, [], ℕ, List, Some, ap, arith}
use Rattle.std.proofs.Common.{get_or, length, map, refl, suc, sym, take, zero}
use Rattle.std.proofs.lemmas.Grind.{take_at_read}
use Rattle.std.specs.Prelude.{slice_get, slice_set}
use Rattle.model.specs.Words.{nth}

pub set_there : {X : Type 0} (xs : List X) (i : ℕ) (a u : X) → slice_get (slice_set xs i a) i ≡ Some u → a ≡ u
set_there [] zero a u e = cc
set_there [] (suc i) a u e = cc
set_there (x ∷ xs) zero a u e = cc
set_there (x ∷ xs) (suc i) a u e = set_there xs i a u e

pub set_elsewhere : {X : Type 0} (xs : List X) (i j : ℕ) (a : X) → j ≢ i
    → slice_get (slice_set xs i a) j ≡ slice_get xs j
set_elsewhere [] i j a h = refl
set_elsewhere (x ∷ xs) zero zero a h = absurd (h refl)
set_elsewhere (x ∷ xs) zero (suc j) a h = refl
set_elsewhere (x ∷ xs) (suc i) zero a h = refl
set_elsewhere (x ∷ xs) (suc i) (suc j) a h = set_elsewhere xs i j a (λ e. h (ap suc e))

pub set_length : {X : Type 0} (xs : List X) (i : ℕ) (a : X) → length (slice_set xs i a) ≡ length xs
set_length [] i a = refl
set_length (x ∷ xs) zero a = refl
set_length (x ∷ xs) (suc i) a = ap suc (set_length xs i a)

-- an item in its own place changes nothing
pub set_same : {X : Type 0} (xs : List X) (i : ℕ) (a : X) → slice_get xs i ≡ Some a → slice_set xs i a ≡ xs
set_same [] i a e = refl
set_same (x ∷ xs) zero a e =
    let same : a ≡ x = cc in
    ap (λ (y : _). y ∷ xs) same
set_same (x ∷ xs) (suc i) a e = ap (λ (l : List _). x ∷ l) (set_same xs i a e)

pub map_set : {X Y : Type 0} (f : X → Y) (xs : List X) (i : ℕ) (a : X)
    → map f (slice_set xs i a) ≡ slice_set (map f xs) i (f a)
map_set f [] i a = refl
map_set f (x ∷ xs) zero a = refl
map_set f (x ∷ xs) (suc i) a = ap (λ (l : List _). f x ∷ l) (map_set f xs i a)

-- an item that is seen as the one before changes nothing that is seen
pub map_set_same : {X Y : Type 0} (f : X → Y) (xs : List X) (i : ℕ) (x a : X) → slice_get xs i ≡ Some x → f a ≡ f x
    → map f (slice_set xs i a) ≡ map f xs
map_set_same f [] i x a e same = refl
map_set_same f (y ∷ xs) zero x a e same =
    let here : x ≡ y = cc in
    ap (λ (z : _). z ∷ map f xs) (same ∙ ap f here)
map_set_same f (y ∷ xs) (suc i) x a e same = ap (λ (l : List _). f y ∷ l) (map_set_same f xs i x a e same)

-- counted from 1 and from 0
pub nth_at : {X : Type 0} (xs : List X) (k : ℕ) → 0 < k → nth xs k ≡ slice_get xs (k - 1)
nth_at xs zero h = absurd (omega (arith, h))
nth_at xs (suc k) h =
    let e : k ≡ suc k - 1 = omega arith in
    ap (slice_get xs) e

-- one item more of a list that is gone through
pub take_more : {X : Type 0} (xs : List X) (i : ℕ) (x : X) → i < length xs → x ≡ get_or xs i x
    → take (i + 1) xs ≡ take i xs ++ x ∷ []
take_more xs i x h is = (take_at_read xs i x h).1 ∙ ap (λ (y : _). take i xs ++ y ∷ []) (sym is)
