-- Lists in which no item is the same as another.
use Rattle.std.proofs.Common.{◌≡◌, ◌<◌, ℕ, zero, suc, Bool, true, false, List, [], ◌∷◌, ◌++◌, Some}
use Rattle.std.proofs.Common.{refl, ap, sym, subst, ◌∙◌, inl, inr, arith, cond, filter, map, slice_get}
use Rattle.workload_defs.proofs.Lists.{from_both, from_filtered, from_mapped}

-- no item is the same as one before it
unfoldable pub AreApart : {A : Type 0} → (A → A → Bool) → List A → Type 0
AreApart same [] = Unit {0}
AreApart same (x ∷ xs) = ((k : ℕ) (y : _) → slice_get xs k ≡ Some y → same y x ≡ false) × AreApart same xs

-- what has one place
pub apart_by_places : {A : Type 0} (same : A → A → Bool) (xs : List A)
    → ((i j : ℕ) (a b : A) → slice_get xs i ≡ Some a → slice_get xs j ≡ Some b → same a b ≡ true → i ≡ j)
    → AreApart same xs
unfolding AreApart
apart_by_places same [] one = tt
apart_by_places {A = A} same (x ∷ xs) one = (
  λ k y at_. go k y at_ (same y x) refl,
  apart_by_places same xs (λ i j a b h g e. let each = one (suc i) (suc j) a b h g e in omega (arith, each)),
)
  where
    go : (k : ℕ) (y : A) → slice_get xs k ≡ Some y → (b : Bool) → same y x ≡ b → same y x ≡ false
    go k y at_ false e = e
    go k y at_ true e = let each = one (suc k) 0 y x at_ refl e in absurd (omega (arith, each))

-- in lists whose items are apart, those of two places
pub apart_at : {A : Type 0} (same : A → A → Bool) (xs : List A) → AreApart same xs → (i j : ℕ) (a b : A) → j < i
    → slice_get xs i ≡ Some a → slice_get xs j ≡ Some b → same a b ≡ false
unfolding AreApart
apart_at same [] apart i j a b low h g = cc
apart_at same (x ∷ xs) apart zero j a b low h g = absurd (omega (arith, low))
apart_at same (x ∷ xs) apart (suc i) zero a b low h g =
    let first : x ≡ b = cc in
    subst (λ y. same a y ≡ false) first (apart.0 i a h)
apart_at same (x ∷ xs) apart (suc i) (suc j) a b low h g = apart_at same xs apart.1 i j a b (omega (arith, low)) h g

pub filtered_apart : {A : Type 0} (same : A → A → Bool) (p : A → Bool) (xs : List A) → AreApart same xs → AreApart same (filter p xs)
unfolding AreApart
filtered_apart same p [] apart = tt
filtered_apart same p (x ∷ xs) apart = go (p x) (filtered_apart same p xs apart.1)
  where
    go : (b : Bool) → AreApart same (filter p xs) → AreApart same (cond b (x ∷ filter p xs) (filter p xs))
    go true rest = (λ k y at_. let t = from_filtered p xs k y at_ in apart.0 t.0 y t.1, rest)
    go false rest = rest

pub both_apart : {A : Type 0} (same : A → A → Bool) (xs ys : List A) → AreApart same xs → AreApart same ys
    → ((i j : ℕ) (a b : A) → slice_get xs i ≡ Some a → slice_get ys j ≡ Some b → same b a ≡ false)
    → AreApart same (xs ++ ys)
unfolding AreApart
both_apart same [] ys left right across = right
both_apart same (x ∷ xs) ys left right across = (
  λ k y at_.
      elim (from_both xs ys k y at_) [
        | inl t ↦ left.0 t.0 y t.1
        | inr t ↦ across 0 t.0 x y refl t.1
      ],
  both_apart same xs ys left.1 right (λ i j a b h g. across (suc i) j a b h g),
)

pub mapped_apart : {A B : Type 0} (f : A → B) (same : A → A → Bool) (other : B → B → Bool) (xs : List A)
    → ((a b : A) → other (f a) (f b) ≡ same a b) → AreApart same xs → AreApart other (map f xs)
unfolding AreApart
mapped_apart f same other [] each apart = tt
mapped_apart f same other (x ∷ xs) each apart = (
  λ k y at_.
      let t = from_mapped f xs k y at_ in
      sym (ap (λ b. other b (f x)) t.2) ∙ (each t.0 x ∙ apart.0 k t.0 t.1),
  mapped_apart f same other xs each apart.1,
)
