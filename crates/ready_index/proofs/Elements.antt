-- What is among the elements of a list.
use Rattle.std.proofs.Common.{[], ℕ, ◌++◌, ◌∙◌, ◌∷◌, ◌≡◌, ◌⊎◌, Bool, List, None, Option, Some, ap, cond, false, filter, find}
use Rattle.std.proofs.Common.{inl, inr, map, refl, subst, sym, true}
use Rattle.std.proofs.lemmas.Bool.Decides.{eqb_tells}
use Rattle.std.specs.List.{AllByRecursion, cons_option}
use Rattle.std.specs.Prelude.{◌==◌, IfSome, IsTrue, filter_map, nat_lt, option_map, slice_get}
use Rattle.model.specs.Words.{insert_once}
use Rattle.ready_index.specs.Lists.{Among, without}

pub filter_keeps : {X : Type 0} (f : X → Bool) (xs : List X) (x : X) → Among x xs → f x ≡ true → Among x (filter f xs)
filter_keeps f [] x h e = absurd h
filter_keeps {X} f (y ∷ ys) x (inl s) e =
    let t : f y ≡ true = ap f (sym s) ∙ e in rw t (inl s)
filter_keeps {X} f (y ∷ ys) x (inr h) e = go (f y) refl (filter_keeps f ys x h e)
  where
    go : (b : Bool) → f y ≡ b → Among x (filter f ys) → Among x (filter f (y ∷ ys))
    go true t k = rw t (inr k)
    go false t k = rw t k

pub filter_has : {X : Type 0} (f : X → Bool) (xs : List X) (x : X) → Among x (filter f xs) → Among x xs × (f x ≡ true)
filter_has f [] x h = absurd h
filter_has {X} f (y ∷ ys) x h = go (f y) refl (filter_has f ys x) h
  where
    more : Among x ys × (f x ≡ true) → Among x (y ∷ ys) × (f x ≡ true)
    more k = (inr k.0, k.1)

    go : (b : Bool) → f y ≡ b → (Among x (filter f ys) → Among x ys × (f x ≡ true))
        → Among x (cond b (y ∷ filter f ys) (filter f ys)) → Among x (y ∷ ys) × (f x ≡ true)
    go true t ih (inl e) = (inl e, ap f e ∙ t)
    go true t ih (inr k) = more (ih k)
    go false t ih k = more (ih k)

pub filter_none : {X : Type 0} (f : X → Bool) (xs : List X) → ((x : X) → Among x xs → f x ≡ false) → filter f xs ≡ []
filter_none f [] h = refl
filter_none {X} f (x ∷ xs) h = rw (h x (inl refl)) (filter_none f xs (λ y k. h y (inr k)))

pub filter_same : {X : Type 0} (f g : X → Bool) (xs : List X) → ((x : X) → f x ≡ g x) → filter f xs ≡ filter g xs
filter_same f g [] same = refl
filter_same f g (x ∷ xs) same = rw (same x, filter_same f g xs same) refl

-- what is found is one of them, and passes
pub found_among : {X : Type 0} (f : X → Bool) (xs : List X) (x : X) → find f xs ≡ Some x → Among x xs
found_among f [] x h = cc
found_among {X} f (y ∷ ys) x h = go (f y) h (found_among f ys x)
  where
    go : (b : Bool) → cond b (Some y) (find f ys) ≡ Some x → (find f ys ≡ Some x → Among x ys) → Among x (y ∷ ys)
    go true e ih = let s : x ≡ y = cc in inl s
    go false e ih = inr (ih e)

pub found_true : {X : Type 0} (f : X → Bool) (xs : List X) (x : X) → find f xs ≡ Some x → f x ≡ true
found_true f [] x h = cc
found_true {X} f (y ∷ ys) x h = go (f y) refl h (found_true f ys x)
  where
    go : (b : Bool) → f y ≡ b → cond b (Some y) (find f ys) ≡ Some x → (find f ys ≡ Some x → f x ≡ true) → f x ≡ true
    go true t e ih = let s : y ≡ x = cc in ap f (sym s) ∙ t
    go false t e ih = ih e

-- what is found by what another function makes of it passes there
pub found_ready : {X Y : Type 0} (f : Y → Bool) (g : X → Y) (xs : List X)
    → IfSome (option_map g (find (λ (x : X). f (g x)) xs)) (λ (y : Y). IsTrue (f y))
found_ready f g [] = tt
found_ready {X} {Y} f g (x ∷ xs) = go (f (g x)) refl (found_ready f g xs)
  where
    go : (b : Bool) → f (g x) ≡ b
        → IfSome (option_map g (find (λ (x : X). f (g x)) xs)) (λ (y : Y). IsTrue (f y))
        → IfSome (option_map g (cond b (Some x) (find (λ (x : X). f (g x)) xs))) (λ (y : Y). IsTrue (f y))
    go true e h = e
    go false e h = h

pub map_among : {X Y : Type 0} (f : X → Y) (xs : List X) (x : X) → Among x xs → Among (f x) (map f xs)
map_among f [] x h = absurd h
map_among f (y ∷ ys) x (inl e) = inl (ap f e)
map_among f (y ∷ ys) x (inr h) = inr (map_among f ys x h)

pub all_among : {X : Type 0} (P : X → Type 0) (xs : List X) (x : X) → AllByRecursion P xs → Among x xs → P x
all_among P [] x all h = absurd h
all_among P (y ∷ ys) x all (inl e) = subst P (sym e) all.0
all_among P (y ∷ ys) x all (inr h) = all_among P ys x all.1 h

-- the first is one of them
pub first_among : {X : Type 0} (xs : List X) (x : X) → slice_get xs 0 ≡ Some x → Among x xs
first_among [] x e = cc
first_among (y ∷ ys) x e = let s : x ≡ y = cc in inl s

-- one more at the end
pub at_end : {X : Type 0} (xs : List X) (x : X) → Among x (xs ++ x ∷ [])
at_end [] x = inl refl
at_end (y ∷ ys) x = inr (at_end ys x)

pub before_end : {X : Type 0} (xs : List X) (x y : X) → Among y xs → Among y (xs ++ x ∷ [])
before_end [] x y h = absurd h
before_end (z ∷ zs) x y (inl e) = inl e
before_end (z ∷ zs) x y (inr h) = inr (before_end zs x y h)

-- what one function gives of them, another gives too where it does so of each
pub chosen_too : {X Y : Type 0} (f g : X → Option Y) (xs : List X) (y : Y) → ((x : X) → f x ≡ Some y → g x ≡ Some y)
    → Among y (filter_map f xs) → Among y (filter_map g xs)
chosen_too f g [] y same h = absurd h
chosen_too {X} {Y} f g (x ∷ xs) y same h = go (f x) refl h (chosen_too f g xs y same)
  where
    later : (o : Option Y) → Among y (filter_map g xs) → Among y (cons_option o (filter_map g xs))
    later None k = k
    later (Some z) k = inr k

    here : (o : Option Y) → o ≡ Some y → Among y (cons_option o (filter_map g xs))
    here None e = cc
    here (Some z) e = let s : y ≡ z = cc in inl s

    go : (o : Option Y) → f x ≡ o → Among y (cons_option o (filter_map f xs))
        → (Among y (filter_map f xs) → Among y (filter_map g xs)) → Among y (filter_map g (x ∷ xs))
    go None e k ih = later (g x) (ih k)
    go (Some z) e (inl s) ih = here (g x) (same x (e ∙ ap Some (sym s)))
    go (Some z) e (inr k) ih = later (g x) (ih k)

-- what is given is given of one of them
pub chosen_of : {X Y : Type 0} (f : X → Option Y) (xs : List X) (y : Y) → Among y (filter_map f xs)
    → (x : X) × Among x xs × (f x ≡ Some y)
chosen_of f [] y h = absurd h
chosen_of {X} {Y} f (x ∷ xs) y h = go (f x) refl h (chosen_of f xs y)
  where
    more : (z : X) × Among z xs × (f z ≡ Some y) → (z : X) × Among z (x ∷ xs) × (f z ≡ Some y)
    more k = (k.0, inr k.1, k.2)

    go : (o : Option Y) → f x ≡ o → Among y (cons_option o (filter_map f xs))
        → (Among y (filter_map f xs) → (z : X) × Among z xs × (f z ≡ Some y))
        → (z : X) × Among z (x ∷ xs) × (f z ≡ Some y)
    go None e k ih = more (ih k)
    go (Some z) e (inl s) ih = (x, inl refl, e ∙ ap Some (sym s))
    go (Some z) e (inr k) ih = more (ih k)

-- a number that is put in
pub put_here : (k : ℕ) (xs : List ℕ) → Among k (insert_once k xs)
put_here k [] = inl refl
put_here k (y ∷ ys) =
    elim (eqb_tells k y) [
      | inl e ↦ rw e.0 (inl e.1)
      | inr e ↦ rw e.0 (go (nat_lt k y) (put_here k ys))
    ]
  where
    go : (b : Bool) → Among k (insert_once k ys) → Among k (cond b (k ∷ y ∷ ys) (y ∷ insert_once k ys))
    go true h = inl refl
    go false h = inr h

pub put_keeps : (k q : ℕ) (xs : List ℕ) → Among q xs → Among q (insert_once k xs)
put_keeps k q [] h = absurd h
put_keeps k q (y ∷ ys) h = go (k == y) (nat_lt k y) h (put_keeps k q ys)
  where
    go : (a b : Bool) → Among q (y ∷ ys) → (Among q ys → Among q (insert_once k ys))
        → Among q (cond a (y ∷ ys) (cond b (k ∷ y ∷ ys) (y ∷ insert_once k ys)))
    go true b h ih = h
    go false true h ih = inr h
    go false false (inl e) ih = inl e
    go false false (inr h) ih = inr (ih h)

pub put_has : (k q : ℕ) (xs : List ℕ) → Among q (insert_once k xs) → (q ≡ k) ⊎ Among q xs
put_has k q [] h = elim h [ inl e ↦ inl e | inr e ↦ absurd e ]
put_has k q (y ∷ ys) h = go (k == y) (nat_lt k y) h (put_has k q ys)
  where
    go : (a b : Bool) → Among q (cond a (y ∷ ys) (cond b (k ∷ y ∷ ys) (y ∷ insert_once k ys)))
        → (Among q (insert_once k ys) → (q ≡ k) ⊎ Among q ys) → (q ≡ k) ⊎ Among q (y ∷ ys)
    go true b h ih = inr h
    go false true (inl e) ih = inl e
    go false true (inr h) ih = inr h
    go false false (inl e) ih = inr (inl e)
    go false false (inr h) ih = elim (ih h) [ inl e ↦ inl e | inr k ↦ inr (inr k) ]

-- a number that is taken out
pub without_keeps : (k q : ℕ) (xs : List ℕ) → Among q xs → (q ≡ k → ⊥) → Among q (without k xs)
without_keeps k q [] h apart = absurd h
without_keeps k q (y ∷ ys) h apart =
    elim (eqb_tells k y) [
      | inl e ↦ rw e.0 (later e.1 h)
      | inr e ↦ rw e.0 (both h (λ k. without_keeps _ _ ys k apart))
    ]
  where
    later : k ≡ y → Among q (y ∷ ys) → Among q ys
    later s (inl e) = absurd (apart (e ∙ sym s))
    later s (inr h) = h

    both : Among q (y ∷ ys) → (Among q ys → Among q (without k ys)) → Among q (y ∷ without k ys)
    both (inl e) ih = inl e
    both (inr h) ih = inr (ih h)

pub without_has : (k q : ℕ) (xs : List ℕ) → Among q (without k xs) → Among q xs
without_has k q [] h = absurd h
without_has k q (y ∷ ys) h = go (k == y) h (without_has k q ys)
  where
    go : (b : Bool) → Among q (cond b ys (y ∷ without k ys)) → (Among q (without k ys) → Among q ys) → Among q (y ∷ ys)
    go true h ih = inr h
    go false (inl e) ih = inl e
    go false (inr h) ih = inr (ih h)
