-- Lists of codes that grow: what a walk over items puts in.
use Rattle.std.proofs.Common.{[], ℕ, ◌+◌, ◌++◌, ◌||◌, ◌∙◌, ◌∷◌, ◌≡◌, ◌≤◌, ◌⊎◌, Bool, List, None, Option, Some, add-one, ap}
use Rattle.std.proofs.Common.{arith, false, flat_map, inl, inr, length, map, refl, slice_get, subst, suc, sym, take}
use Rattle.std.proofs.Common.{true}
use Rattle.std.proofs.Common.{zero}
use Rattle.std.proofs.lemmas.Bool.Decides.{eqb_tells}
use Rattle.std.proofs.lemmas.Grind.{flat_map-append}
use Rattle.std.specs.Option.{option_map_or}
use Rattle.lemmas.proofs.Booleans.{or_cases, or_true}
use Rattle.lemmas.proofs.Lists.{take_none, take_whole}
use Rattle.model_laws.proofs.Lists.{has_append}
use Rattle.grouped_places.proofs.Finding.{inserted_keeps, inserted_there}
use Rattle.model.specs.Words.{has, insert_once}
use Rattle.owner_fold.specs.Pairs.{Grows, HasAll}

pub in_either : (xs ys : List ℕ) (n : ℕ) → has (xs ++ ys) n ≡ true → (has xs n ≡ true) ⊎ (has ys n ≡ true)
in_either xs ys n h = or_cases (has xs n) (has ys n) (sym (has_append xs ys n) ∙ h)

pub in_first : (xs ys : List ℕ) (n : ℕ) → has xs n ≡ true → has (xs ++ ys) n ≡ true
in_first xs ys n h = has_append xs ys n ∙ ap (λ (b : Bool). b || has ys n) h

pub in_second : (xs ys : List ℕ) (n : ℕ) → has ys n ≡ true → has (xs ++ ys) n ≡ true
in_second xs ys n h = has_append xs ys n ∙ ap (λ (b : Bool). has xs n || b) h ∙ or_true (has xs n)

-- one code
pub itself : (c : ℕ) → has (c ∷ []) c ≡ true
itself c =
    elim (eqb_tells c c) [ inl e ↦ ap (λ (b : Bool). b || false) e.0 | inr e ↦ absurd (e.1 refl) ]

pub all_none : (codes : List ℕ) → HasAll codes []
all_none codes c h = cc

pub all_with : (x : ℕ) (xs codes : List ℕ) → has codes x ≡ true → HasAll codes xs → HasAll codes (x ∷ xs)
all_with x xs codes here rest c h =
    elim (eqb_tells x c) [
      | inl e ↦ ap (has codes) (sym e.1) ∙ here
      | inr e ↦ rest c (ap (λ (b : Bool). b || has xs c) (sym e.0) ∙ h)
    ]

-- one that is put in
pub put_keeps : (x : ℕ) (old new : List ℕ) → new ≡ insert_once x old → HasAll new old
put_keeps x old new p c h = ap (λ (l : List ℕ). has l c) p ∙ inserted_keeps x old c h

pub put_there : (x y : ℕ) (old new : List ℕ) → x ≡ y → new ≡ insert_once x old → has new y ≡ true
put_there x y old new e p = (λ j. has (p j) (sym e j)) ∙ inserted_there x old

taken_more : {X : Type 0} (f : X → List ℕ) (xs : List X) (i c : ℕ) → has (flat_map f (take (suc i) xs)) c ≡ true
    → (has (flat_map f (take i xs)) c ≡ true) ⊎ (has (option_map_or f (slice_get xs i) []) c ≡ true)
taken_more f [] i c h = cc
taken_more {X} f (x ∷ xs) zero c h =
    elim (in_either (f x) (flat_map f (take 0 xs)) c h) [
      | inl e ↦ inr e
      | inr e ↦ absurd (
          let q : false ≡ true = sym (ap (λ (l : List X). has (flat_map f l) c) (take_none xs)) ∙ e in cc)
    ]
taken_more f (x ∷ xs) (suc i) c h =
    elim (in_either (f x) (flat_map f (take (suc i) xs)) c h) [
      | inl e ↦ inl (in_first (f x) (flat_map f (take i xs)) c e)
      | inr e ↦ elim (taken_more f xs i c e) [
        | inl k ↦ inl (in_second (f x) (flat_map f (take i xs)) c k)
        | inr k ↦ inr k
      ]
    ]

of_item : {X : Type 0} (f : X → List ℕ) (o : Option X) (codes : List ℕ) (c : ℕ)
    → ((x : X) → o ≡ Some x → HasAll codes (f x)) → has (option_map_or f o []) c ≡ true → has codes c ≡ true
of_item f None codes c there h = cc
of_item f (Some x) codes c there h = there x refl c h

pub grows_none : {X : Type 0} (f : X → List ℕ) (xs : List X) (codes : List ℕ)
    → Grows (flat_map f (take 0 xs)) codes codes
grows_none {X} f xs codes = record {
  keeps = λ c h. h;
  there =
      λ c h. absurd (let q : false ≡ true = sym (ap (λ (l : List X). has (flat_map f l) c) (take_none xs)) ∙ h in cc);
}

pub grows_further : {X : Type 0} (f : X → List ℕ) (xs : List X) (i : ℕ) (o : Option X) (old mid new : List ℕ)
    → slice_get xs i ≡ o → Grows (flat_map f (take i xs)) old mid → HasAll new mid
    → ((x : X) → o ≡ Some x → HasAll new (f x)) → Grows (flat_map f (take (i + 1) xs)) old new
grows_further {X} f xs i o old mid new e h keeps there = record {
  keeps = λ c k. keeps c (h.keeps c k);
  there =
      λ c k.
      elim (taken_more f xs i c (ap (λ (n : ℕ). has (flat_map f (take n xs)) c) (sym (add-one i)) ∙ k)) [
        | inl g ↦ keeps c (h.there c g)
        | inr g ↦ of_item f o new c there (ap (λ (p : Option X). has (option_map_or f p []) c) (sym e) ∙ g)
      ];
}

pub grows_all : {X : Type 0} (f : X → List ℕ) (xs : List X) (i : ℕ) (old new : List ℕ) → length xs ≤ i
    → Grows (flat_map f (take i xs)) old new → Grows (flat_map f xs) old new
grows_all {X} f xs i old new h g = subst (λ (l : List X). Grows (flat_map f l) old new) (take_whole xs i h) g

-- the items of one list and then those of another
pub grows_both : {X : Type 0} (f : X → List ℕ) (xs ys : List X) (old mid new : List ℕ)
    → Grows (flat_map f xs) old mid → Grows (flat_map f ys) mid new → Grows (flat_map f (xs ++ ys)) old new
grows_both f xs ys old mid new g h = record {
  keeps = λ c k. h.keeps c (g.keeps c k);
  there =
      λ c k.
      elim (in_either (flat_map f xs) (flat_map f ys) c (ap (λ (l : List ℕ). has l c) (sym (flat_map-append f xs ys)) ∙ k)) [
        | inl e ↦ h.keeps c (g.there c e)
        | inr e ↦ h.there c e
      ];
}

-- as many items as places
pub as_many : {S X : Type 0} (f : S → Option X) (doc_places : List S) (items : List X) → map f doc_places ≡ map Some items
    → length items ≡ length doc_places
as_many f [] [] e = refl
as_many f [] (x ∷ xs) e = cc
as_many f (s ∷ ss) [] e = cc
as_many {S} {X} f (s ∷ ss) (x ∷ xs) e =
    let there : map f ss ≡ map Some xs = cc in let k = as_many f ss xs there in omega (arith, k)
