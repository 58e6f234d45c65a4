-- The soonest is one of them, and none comes sooner.
use Rattle.std.proofs.Common.{◌≡◌, ◌∷◌, [], Bool, List, None, Option, Some, arith, cond, false, refl, subst}
use Rattle.std.proofs.Common.{true}
use Rattle.std.proofs.lemmas.List.Elements.{All-contains, All-from_recursion, Contains-append_right}
use Rattle.std.specs.List.{AllByRecursion}
use Rattle.std.specs.Prelude.{All, Contains}
use Rattle.lemmas.proofs.Lists.{all_such}
use Rattle.file_watch.specs.Circle.{DepPlace, comes_sooner, sooner, soonest}
use Rattle.file_watch.proofs.Order.{sooner_apart, sooner_back, sooner_once}

inside : (a b : DepPlace) → Some a ≡ Some b → a ≡ b
inside a b e = cc

first_of : (x : DepPlace) (xs : List DepPlace) → Contains (x ∷ xs) x
first_of x xs = (0, grind arith, refl)

one_of : (last : Option DepPlace) (x : DepPlace) (xs : List DepPlace) → Contains (x ∷ xs) (sooner last x (soonest last xs))
one_of last x [] = first_of x []
one_of last x (y ∷ ys) = go (comes_sooner last (sooner last y (soonest last ys)) x) (one_of last y ys)
  where
    go : (b : Bool) → Contains (y ∷ ys) (sooner last y (soonest last ys))
        → Contains (x ∷ y ∷ ys) (cond b (sooner last y (soonest last ys)) x)
    go true h = Contains-append_right (x ∷ []) (y ∷ ys) (sooner last y (soonest last ys)) h
    go false h = first_of x (y ∷ ys)

none_sooner : (last : Option DepPlace) (x : DepPlace) (xs : List DepPlace)
    → AllByRecursion (λ (q : DepPlace). comes_sooner last q (sooner last x (soonest last xs)) ≡ false) (x ∷ xs)
none_sooner last x [] = (sooner_apart last x, tt)
none_sooner last x (y ∷ ys) =
    go (comes_sooner last (sooner last y (soonest last ys)) x) refl (none_sooner last y ys)
  where
    go : (b : Bool) → comes_sooner last (sooner last y (soonest last ys)) x ≡ b
        → AllByRecursion (λ (q : DepPlace). comes_sooner last q (sooner last y (soonest last ys)) ≡ false) (y ∷ ys)
        → AllByRecursion (λ (q : DepPlace). comes_sooner last q (cond b (sooner last y (soonest last ys)) x) ≡ false)
        (x ∷ y ∷ ys)
    go true e h = (sooner_once last (sooner last y (soonest last ys)) x e, h)
    go false e h = (
      sooner_apart last x,
      all_such
          (λ (q : DepPlace). comes_sooner last q (sooner last y (soonest last ys)) ≡ false)
          (λ (q : DepPlace). comes_sooner last q x ≡ false) (y ∷ ys)
          (λ q k. sooner_back last q (sooner last y (soonest last ys)) x k e) h,
    )

pub soonest_is_one : (last : Option DepPlace) (xs : List DepPlace) (p : DepPlace) → soonest last xs ≡ Some p → Contains xs p
soonest_is_one last [] p h = cc
soonest_is_one last (x ∷ xs) p h =
    subst (λ (q : DepPlace). Contains (x ∷ xs) q) (inside (sooner last x (soonest last xs)) p h) (one_of last x xs)

pub none_is_sooner : (last : Option DepPlace) (xs : List DepPlace) (p : DepPlace) → soonest last xs ≡ Some p
    → All (λ (q : DepPlace). comes_sooner last q p ≡ false) xs
none_is_sooner last [] p h = cc
none_is_sooner last (x ∷ xs) p h =
    subst (λ (r : DepPlace). All (λ (q : DepPlace). comes_sooner last q r ≡ false) (x ∷ xs))
    (inside (sooner last x (soonest last xs)) p h)
    (All-from_recursion (λ (q : DepPlace). comes_sooner last q (sooner last x (soonest last xs)) ≡ false) (x ∷ xs)
    (none_sooner last x xs))

pub none_where_none : (last : Option DepPlace) (xs : List DepPlace) → soonest last xs ≡ None → xs ≡ []
none_where_none last [] h = refl
none_where_none last (x ∷ xs) h = cc

-- what holds of all holds of the soonest
pub holds_of_soonest : (P : DepPlace → Type 0) (last : Option DepPlace) (xs : List DepPlace) (p : DepPlace) → AllByRecursion P xs
    → soonest last xs ≡ Some p → P p
holds_of_soonest P last xs p h e =
    All-contains P xs p (All-from_recursion P xs h) (soonest_is_one last xs p e)
