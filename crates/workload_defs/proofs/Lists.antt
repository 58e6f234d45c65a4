-- What stands at the places of lists.
use Rattle.std.proofs.Common.{◌≡◌, ◌≤◌, ◌+◌, ℕ, zero, suc, Bool, true, false, List, [], ◌∷◌, ◌++◌, Option, Some, None}
use Rattle.std.proofs.Common.{length, refl, ap, subst, ◌∙◌, inl, inr, ◌⊎◌, arith, cond, Contains, filter, map, option_map, slice_get, ◌||◌}
use Rattle.std.proofs.lemmas.Option.{slice_get-map}
use Rattle.std.specs.Prelude.{filter_map, flat_map}
use Rattle.std.specs.List.{cons_option, list_any, position_from}

-- Lists without an element.

pub nothing : {X : Type 0} (xs : List X) → ((x : X) → Contains xs x → ⊥) → xs ≡ []
nothing [] none = refl
nothing (x ∷ xs) none = absurd (none x (0, omega arith, refl))

pub both_empty : {X : Type 0} (xs ys : List X) → xs ++ ys ≡ [] → (xs ≡ []) × (ys ≡ [])
both_empty [] ys e = (refl, e)
both_empty (x ∷ xs) ys e = cc

pub no_pieces : {X Y : Type 0} (f : X → List Y) (xs : List X) → flat_map f xs ≡ [] → (k : ℕ) (x : X) → slice_get xs k ≡ Some x → f x ≡ []
no_pieces f [] e k x at_ = cc
no_pieces f (y ∷ ys) e zero x at_ =
    let same : y ≡ x = cc in
    subst (λ z. f z ≡ []) same (both_empty (f y) (flat_map f ys) e).0
no_pieces f (y ∷ ys) e (suc k) x at_ = no_pieces f ys (both_empty (f y) (flat_map f ys) e).1 k x at_

pub no_picks : {X Y : Type 0} (f : X → Option Y) (xs : List X) → filter_map f xs ≡ [] → (k : ℕ) (x : X) → slice_get xs k ≡ Some x → f x ≡ None
no_picks f [] e k x at_ = cc
no_picks {Y = Y} f (y ∷ ys) e k x at_ = go (f y) refl e k at_ (no_picks f ys)
  where
    go : (o : Option Y) → f y ≡ o → cons_option o (filter_map f ys) ≡ [] → (k : ℕ) → slice_get (y ∷ ys) k ≡ Some x
        → (filter_map f ys ≡ [] → (k : ℕ) (x : _) → slice_get ys k ≡ Some x → f x ≡ None) → f x ≡ None
    go (Some z) is e k at_ each = cc
    go None is e zero at_ each = let same : y ≡ x = cc in subst (λ z. f z ≡ None) same is
    go None is e (suc k) at_ each = each e k x at_

-- Places.

-- a list that has nothing at a place is no longer
pub ends_by : {X : Type 0} (xs : List X) (m : ℕ) → ((x : X) → slice_get xs m ≡ Some x → ⊥) → length xs ≤ m
ends_by [] m none = omega arith
ends_by (x ∷ xs) zero none = absurd (none x refl)
ends_by (x ∷ xs) (suc m) none = let rest = ends_by xs m none in omega (arith, rest)

pub one_there : {X : Type 0} (xs : List X) (k : ℕ) (a b : X) → slice_get xs k ≡ Some a → slice_get xs k ≡ Some b → a ≡ b
one_there xs k a b e h = cc

-- of a list that is made item by item
pub mapped : {X Y : Type 0} (f : X → Y) (xs : List X) (k : ℕ) (x : X) → slice_get xs k ≡ Some x → slice_get (map f xs) k ≡ Some (f x)
mapped f xs k x e = slice_get-map f xs k ∙ ap (option_map f) e

pub from_mapped : {X Y : Type 0} (f : X → Y) (xs : List X) (k : ℕ) (y : Y) → slice_get (map f xs) k ≡ Some y
    → (x : X) × (slice_get xs k ≡ Some x) × (f x ≡ y)
from_mapped f [] k y e = cc
from_mapped f (x ∷ xs) zero y e = let same : f x ≡ y = cc in (x, refl, same)
from_mapped f (x ∷ xs) (suc k) y e = from_mapped f xs k y e

-- of those that pass a test
pub filtered : {X : Type 0} (p : X → Bool) (xs : List X) (k : ℕ) (x : X) → slice_get xs k ≡ Some x → p x ≡ true
    → (n : ℕ) × (slice_get (filter p xs) n ≡ Some x)
filtered p [] k x e pass = cc
filtered p (y ∷ ys) zero x e pass =
    let same : x ≡ y = cc in
    let passes : p y ≡ true = subst (λ z. p z ≡ true) same pass in
    (0, ap (λ b. slice_get (cond b (y ∷ filter p ys) (filter p ys)) 0) passes ∙ e)
filtered p (y ∷ ys) (suc k) x e pass = go (p y) (filtered p ys k x e pass)
  where
    go : (b : Bool) → (n : ℕ) × (slice_get (filter p ys) n ≡ Some x)
        → (n : ℕ) × (slice_get (cond b (y ∷ filter p ys) (filter p ys)) n ≡ Some x)
    go true later = (suc later.0, later.1)
    go false later = later

pub from_filtered : {X : Type 0} (p : X → Bool) (xs : List X) (n : ℕ) (x : X) → slice_get (filter p xs) n ≡ Some x
    → (k : ℕ) × (slice_get xs k ≡ Some x) × (p x ≡ true)
from_filtered p [] n x e = cc
from_filtered p (y ∷ ys) n x e = go (p y) refl n e (λ m h. from_filtered p ys m x h)
  where
    go : (b : Bool) → p y ≡ b → (n : ℕ) → slice_get (cond b (y ∷ filter p ys) (filter p ys)) n ≡ Some x
        → ((m : ℕ) → slice_get (filter p ys) m ≡ Some x → (k : ℕ) × (slice_get ys k ≡ Some x) × (p x ≡ true))
        → (k : ℕ) × (slice_get (y ∷ ys) k ≡ Some x) × (p x ≡ true)
    go true is zero e later = let same : y ≡ x = cc in (0, e, subst (λ z. p z ≡ true) same is)
    go true is (suc m) e later = let t = later m e in (suc t.0, t.1, t.2)
    go false is m e later = let t = later m e in (suc t.0, t.1, t.2)

pub at_back : {X : Type 0} (xs ys : List X) (k : ℕ) (x : X) → slice_get ys k ≡ Some x → (n : ℕ) × (slice_get (xs ++ ys) n ≡ Some x)
at_back [] ys k x e = (k, e)
at_back (z ∷ xs) ys k x e = let t = at_back xs ys k x e in (suc t.0, t.1)

pub from_both : {X : Type 0} (xs ys : List X) (n : ℕ) (x : X) → slice_get (xs ++ ys) n ≡ Some x
    → ((k : ℕ) × (slice_get xs k ≡ Some x)) ⊎ ((k : ℕ) × (slice_get ys k ≡ Some x))
from_both [] ys n x e = inr (n, e)
from_both (z ∷ xs) ys zero x e = inl (0, e)
from_both (z ∷ xs) ys (suc n) x e =
    elim (from_both xs ys n x e) [
      | inl t ↦ inl (suc t.0, t.1)
      | inr t ↦ inr t
    ]

-- Tests.

pub any_at : {X : Type 0} (p : X → Bool) (xs : List X) (k : ℕ) (x : X) → slice_get xs k ≡ Some x → p x ≡ true → list_any p xs ≡ true
any_at p [] k x e pass = cc
any_at p (y ∷ ys) zero x e pass =
    let same : x ≡ y = cc in
    let passes : p y ≡ true = subst (λ z. p z ≡ true) same pass in
    rw passes refl
any_at p (y ∷ ys) (suc k) x e pass = go (p y) (any_at p ys k x e pass)
  where
    go : (b : Bool) → list_any p ys ≡ true → (b || list_any p ys) ≡ true
    go true h = refl
    go false h = h

pub from_any : {X : Type 0} (p : X → Bool) (xs : List X) → list_any p xs ≡ true → (k : ℕ) × ((x : X) × (slice_get xs k ≡ Some x) × (p x ≡ true))
from_any p [] e = cc
from_any p (y ∷ ys) e = go (p y) refl e (from_any p ys)
  where
    go : (b : Bool) → p y ≡ b → (b || list_any p ys) ≡ true
        → (list_any p ys ≡ true → (k : ℕ) × ((x : _) × (slice_get ys k ≡ Some x) × (p x ≡ true)))
        → (k : ℕ) × ((x : _) × (slice_get (y ∷ ys) k ≡ Some x) × (p x ≡ true))
    go true is h later = (0, (y, refl, is))
    go false is h later = let t = later h in (suc t.0, t.1)

pub not_any : {X : Type 0} (p : X → Bool) (xs : List X) → ((k : ℕ) (x : X) → slice_get xs k ≡ Some x → p x ≡ false) → list_any p xs ≡ false
not_any p [] none = refl
not_any p (y ∷ ys) none = rw (none 0 y refl) (not_any p ys (λ k x e. none (suc k) x e))

-- The first that passes a test.

module _ {X : Type 0} (test : X → Bool) where
  pub first_there : (from n : ℕ) (xs : List X) → position_from test from xs ≡ Some n
      → (k : ℕ) × (n ≡ from + k) × ((x : X) × (slice_get xs k ≡ Some x) × (test x ≡ true))
  first_there from n [] e = cc
  first_there from n (x ∷ xs) e = go (test x) refl e (first_there (from + 1) n xs)
    where
      go : (b : Bool) → test x ≡ b → cond b (Some from) (position_from test (from + 1) xs) ≡ Some n
          → (position_from test (from + 1) xs ≡ Some n
          → (k : ℕ) × (n ≡ from + 1 + k) × ((y : X) × (slice_get xs k ≡ Some y) × (test y ≡ true)))
          → (k : ℕ) × (n ≡ from + k) × ((y : X) × (slice_get (x ∷ xs) k ≡ Some y) × (test y ≡ true))
      go true is h later = let same : from ≡ n = cc in (0, omega (arith, same), (x, refl, is))
      go false is h later = let t = later h in (suc t.0, omega (arith, t.1), t.2)

  pub found_first : (from k : ℕ) (xs : List X) (x : X) → slice_get xs k ≡ Some x → test x ≡ true
      → (n : ℕ) × (position_from test from xs ≡ Some n)
  found_first from k [] x e pass = cc
  found_first from k (y ∷ ys) x e pass = go (test y) refl k e (λ m h. found_first (from + 1) m ys x h pass)
    where
      go : (b : Bool) → test y ≡ b → (k : ℕ) → slice_get (y ∷ ys) k ≡ Some x
          → ((m : ℕ) → slice_get ys m ≡ Some x → (n : ℕ) × (position_from test (from + 1) ys ≡ Some n))
          → (n : ℕ) × (cond b (Some from) (position_from test (from + 1) ys) ≡ Some n)
      go true is k h later = (from, refl)
      go false is zero h later =
          let same : x ≡ y = cc in
          let passes : test y ≡ true = subst (λ z. test z ≡ true) same pass in
          absurd (cc)
      go false is (suc m) h later = later m h
