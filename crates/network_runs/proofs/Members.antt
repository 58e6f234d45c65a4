-- What stands in a list, and which lists are parts of others.
use Rattle.std.proofs.Common.{[], ◌++◌, ◌≡◌, ◌∙◌, ◌∷◌, ◌⊎◌, List, None, Option, Some, ap, arith, inl, inr, refl, subst, sym}
use Rattle.std.proofs.lemmas.List.Elements.{Contains-append_cases, Contains-append_left, Contains-append_right, Contains-push, Contains-push_cases}
use Rattle.std.specs.List.{cons_option}
use Rattle.std.specs.Prelude.{Contains, filter_map}
use Rattle.model.specs.Words.{IsPartOf}

-- it is one of them
abbrev pub IsIn : {X : Type 0} → X → List X → Type 0
IsIn x [] = ⊥
IsIn x (y ∷ ys) = (y ≡ x) ⊎ IsIn x ys

pub contains_of : {X : Type 0} (x : X) (xs : List X) → IsIn x xs → Contains xs x
contains_of x [] h = absurd h
contains_of {X = X} x (y ∷ xs) (inl e) =
    subst (λ (z : X). Contains (z ∷ xs) x) (sym e) (Contains-append_left (x ∷ []) xs x (Contains-push [] x))
contains_of x (y ∷ xs) (inr h) = Contains-append_right (y ∷ []) xs x (contains_of x xs h)

pub in_of : {X : Type 0} (x : X) (xs : List X) → Contains xs x → IsIn x xs
in_of x [] h = let low = h.1 in absurd (omega (arith, low))
in_of x (y ∷ xs) h =
    elim (Contains-append_cases (y ∷ []) xs x h) [
      | inl k ↦ elim (Contains-push_cases [] y x k) [
        | inl none ↦ let low = none.1 in absurd (omega (arith, low))
        | inr e ↦ inl e
      ]
      | inr k ↦ inr (in_of x xs k)
    ]

pub in_left : {X : Type 0} (x : X) (xs ys : List X) → IsIn x xs → IsIn x (xs ++ ys)
in_left x [] ys h = absurd h
in_left x (y ∷ xs) ys (inl e) = inl e
in_left x (y ∷ xs) ys (inr h) = inr (in_left x xs ys h)

pub in_right : {X : Type 0} (x : X) (xs ys : List X) → IsIn x ys → IsIn x (xs ++ ys)
in_right x [] ys h = h
in_right x (y ∷ xs) ys h = inr (in_right x xs ys h)

pub in_either : {X : Type 0} (x : X) (xs ys : List X) → IsIn x (xs ++ ys) → IsIn x xs ⊎ IsIn x ys
in_either x [] ys h = inr h
in_either x (y ∷ xs) ys (inl e) = inl (inl e)
in_either x (y ∷ xs) ys (inr h) = elim (in_either x xs ys h) [ inl k ↦ inl (inr k) | inr k ↦ inr k ]

-- where it stands
pub record SplitAt {X : Type 0} (x : X) (xs : List X) : Type 0 where
  pub front : List X
  pub back : List X
  pub split : xs ≡ front ++ x ∷ back

pub in_split : {X : Type 0} (x : X) (xs : List X) → IsIn x xs → SplitAt x xs
in_split x [] h = absurd h
in_split x (y ∷ xs) (inl e) = record { front = []; back = xs; split = ap (λ z. z ∷ xs) e }
in_split x (y ∷ xs) (inr h) =
    let s = in_split x xs h in record { front = y ∷ s.front; back = s.back; split = ap (λ l. y ∷ l) s.split }

-- what is made of an element stands in what is made of the list
pub in_mapped : {X Y : Type 0} (g : X → Option Y) (x : X) (y : Y) (xs : List X) → IsIn x xs → g x ≡ Some y
    → IsIn y (filter_map g xs)
in_mapped g x y [] h e = absurd h
in_mapped {X = X} {Y = Y} g x y (one ∷ xs) (inl same) e = go (g one) (ap g same ∙ e)
  where
    go : (o : Option Y) → o ≡ Some y → IsIn y (cons_option o (filter_map g xs))
    go (Some z) q = inl (some_is q)
      where
        some_is : Some z ≡ Some y → z ≡ y
        some_is q = cc
    go None q = cc
in_mapped {X = X} {Y = Y} g x y (one ∷ xs) (inr h) e = go (g one) (in_mapped g x y xs h e)
  where
    go : (o : Option Y) → IsIn y (filter_map g xs) → IsIn y (cons_option o (filter_map g xs))
    go (Some z) later = inr later
    go None later = later

-- and what stands there was made of one
pub mapped_in : {X Y : Type 0} (g : X → Option Y) (y : Y) (xs : List X) → IsIn y (filter_map g xs)
    → (x : X) × IsIn x xs × (g x ≡ Some y)
mapped_in g y [] h = absurd h
mapped_in {X = X} {Y = Y} g y (one ∷ xs) h = go (g one) refl h (λ k. mapped_in g y xs k)
  where
    go : (o : Option Y) → g one ≡ o → IsIn y (cons_option o (filter_map g xs))
        → (IsIn y (filter_map g xs) → (x : X) × IsIn x xs × (g x ≡ Some y))
        → (x : X) × IsIn x (one ∷ xs) × (g x ≡ Some y)
    go None is k later = let it = later k in (it.0, inr it.1, it.2)
    go (Some z) is (inl e) later = (one, inl refl, is ∙ ap Some e)
    go (Some z) is (inr k) later = let it = later k in (it.0, inr it.1, it.2)

-- a part of a list is a part of what has more in front of it
pub part_behind : {X : Type 0} (ys us vs : List X) → IsPartOf us vs → IsPartOf us (ys ++ vs)
part_behind [] us vs h = h
part_behind (y ∷ ys) [] vs h = tt
part_behind (y ∷ ys) (u ∷ us) vs h = inr (part_behind ys (u ∷ us) vs h)

-- two parts behind each other are a part of both behind each other
pub part_both : {X : Type 0} (xs ys us vs : List X) → IsPartOf xs ys → IsPartOf us vs → IsPartOf (xs ++ us) (ys ++ vs)
part_both [] ys us vs h k = part_behind ys us vs k
part_both (x ∷ xs) [] us vs h k = absurd h
part_both (x ∷ xs) (y ∷ ys) us vs (inl h) k = inl (h.0, part_both xs ys us vs h.1 k)
part_both (x ∷ xs) (y ∷ ys) us vs (inr h) k = inr (part_both (x ∷ xs) ys us vs h k)

-- a part that has not the last element is a part of all before it
pub part_front : {X : Type 0} (xs ys : List X) (p : X) → IsPartOf xs (ys ++ p ∷ []) → (IsIn p xs → ⊥) → IsPartOf xs ys
part_front [] ys p h lacks = tt
part_front (x ∷ xs) [] p (inl h) lacks = absurd (lacks (inl h.0))
part_front (x ∷ xs) [] p (inr h) lacks = absurd h
part_front (x ∷ xs) (y ∷ ys) p (inl h) lacks = inl (h.0, part_front xs ys p h.1 (λ k. lacks (inr k)))
part_front (x ∷ xs) (y ∷ ys) p (inr h) lacks = inr (part_front (x ∷ xs) ys p h lacks)

-- where nothing stands in it, it is a part of any list
pub part_none : {X : Type 0} (xs ys : List X) → ((x : X) → IsIn x xs → ⊥) → IsPartOf xs ys
part_none [] ys h = tt
part_none (x ∷ xs) ys h = absurd (h x (inl refl))

pub in_part : {X : Type 0} (x : X) (xs ys : List X) → IsIn x xs → IsPartOf xs ys → IsIn x ys
in_part x [] ys h k = absurd h
in_part x (z ∷ xs) [] h k = absurd k
in_part x (z ∷ xs) (y ∷ ys) (inl e) (inl k) = inl (sym k.0 ∙ e)
in_part x (z ∷ xs) (y ∷ ys) (inr h) (inl k) = inr (in_part x xs ys h k.1)
in_part x (z ∷ xs) (y ∷ ys) h (inr k) = inr (in_part x (z ∷ xs) ys h k)

-- what is made of a part is a part of what is made of the whole
pub part_mapped : {X Y : Type 0} (g : X → Option Y) (xs ys : List X) → IsPartOf xs ys
    → IsPartOf (filter_map g xs) (filter_map g ys)
part_mapped g [] ys h = tt
part_mapped g (x ∷ xs) [] h = absurd h
part_mapped {X = X} {Y = Y} g (x ∷ xs) (y ∷ ys) (inl h) =
    subst (λ (z : X). IsPartOf (cons_option (g x) (filter_map g xs)) (cons_option (g z) (filter_map g ys))) h.0
    (both (g x) (part_mapped g xs ys h.1))
  where
    both : (o : Option Y) → IsPartOf (filter_map g xs) (filter_map g ys)
        → IsPartOf (cons_option o (filter_map g xs)) (cons_option o (filter_map g ys))
    both None k = k
    both (Some b) k = inl (refl, k)
part_mapped {X = X} {Y = Y} g (x ∷ xs) (y ∷ ys) (inr h) = later (g y) (filter_map g (x ∷ xs)) (part_mapped g (x ∷ xs) ys h)
  where
    later : (o : Option Y) (us : List Y) → IsPartOf us (filter_map g ys) → IsPartOf us (cons_option o (filter_map g ys))
    later None us k = k
    later (Some b) us k = part_behind (b ∷ []) us (filter_map g ys) k

-- nothing stands in it twice
abbrev pub NoneTwice : {X : Type 0} → List X → Type 0
NoneTwice [] = Unit {0}
NoneTwice (x ∷ xs) = (IsIn x xs → ⊥) × NoneTwice xs

-- of two parts of such a list, one whose elements are all in the other is a part of it
pub part_of_part : {X : Type 0} (ls xs ys : List X) → NoneTwice ls → IsPartOf xs ls → IsPartOf ys ls
    → ((x : X) → IsIn x xs → IsIn x ys) → IsPartOf xs ys
part_of_part ls [] ys once h k all = tt
part_of_part [] (x ∷ xs) ys once h k all = absurd h
part_of_part (l ∷ ls) (x ∷ xs) [] once h k all = absurd (all x (inl refl))
part_of_part {X = X} (l ∷ ls) (x ∷ xs) (y ∷ ys) once (inl h) (inl k) all =
    inl (h.0 ∙ sym k.0, part_of_part ls xs ys once.1 h.1 k.1 rest)
  where
    rest : (z : X) → IsIn z xs → IsIn z ys
    rest z i =
        elim (all z (inr i)) [
          | inl e ↦ absurd (once.0 (subst (λ (c : X). IsIn c ls) (sym e ∙ k.0) (in_part z xs ls i h.1)))
          | inr j ↦ j
        ]
part_of_part {X = X} (l ∷ ls) (x ∷ xs) (y ∷ ys) once (inl h) (inr k) all =
    absurd (once.0 (subst (λ (c : X). IsIn c ls) h.0 (in_part x (y ∷ ys) ls (all x (inl refl)) k)))
part_of_part {X = X} (l ∷ ls) (x ∷ xs) (y ∷ ys) once (inr h) (inl k) all =
    inr (part_of_part ls (x ∷ xs) ys once.1 h k.1 rest)
  where
    rest : (z : X) → IsIn z (x ∷ xs) → IsIn z ys
    rest z i =
        elim (all z i) [
          | inl e ↦ absurd (once.0 (subst (λ (c : X). IsIn c ls) (sym e ∙ k.0) (in_part z (x ∷ xs) ls i h)))
          | inr j ↦ j
        ]
part_of_part (l ∷ ls) (x ∷ xs) (y ∷ ys) once (inr h) (inr k) all = part_of_part ls (x ∷ xs) (y ∷ ys) once.1 h k all
