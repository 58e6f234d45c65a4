-- The lowest number of those that pass, one item further.
use Rattle.std.proofs.Common.{◌≡◌, ◌∙◌, ◌∷◌, [], ℕ, Bool, List, None, Option, Some, ap, arith, cond, false, map, refl}
use Rattle.std.proofs.Common.{sym, true}
use Rattle.std.proofs.lemmas.Bool.{eqb-true}
use Rattle.std.proofs.lemmas.Bool.Decides.{nat_tests}
use Rattle.std.specs.List.{AllByRecursion}
use Rattle.std.specs.Prelude.{◌&&◌, ◌==◌, filter, nat_lt}
use Rattle.model.specs.Words.{least, lesser}

-- the lower of two numbers that may be there
abbrev pub lower_of : Option ℕ → Option ℕ → Option ℕ
lower_of None b = b
lower_of (Some a) b = Some (lesser a b)

two : (a x : ℕ) → cond (nat_lt x a) x a ≡ cond (nat_lt a x) a x
two a x = grind (arith, nat_tests)

three : (a x b : ℕ)
    → cond (nat_lt (cond (nat_lt b x) b x) a) (cond (nat_lt b x) b x) a
    ≡ cond (nat_lt b (cond (nat_lt a x) a x)) b (cond (nat_lt a x) a x)
three a x b = grind (arith, nat_tests)

-- the next number is the lowest so far, or the one before is
lower_further : (before : Option ℕ) (x : ℕ) (rest : Option ℕ)
    → lower_of before (Some (lesser x rest)) ≡ lower_of (Some (lesser x before)) rest
lower_further None x None = refl
lower_further None x (Some b) = refl
lower_further (Some a) x None = ap Some (two a x)
lower_further (Some a) x (Some b) = ap Some (three a x b)

-- the numbers of those that pass three tests, the last on the number
abbrev pub numbers_of : {X : Type 0} → (X → Bool) → (X → Bool) → (ℕ → Bool) → (X → ℕ) → List X → List ℕ
numbers_of p q r number xs = filter r (map number (filter q (filter p xs)))

one_more : {X : Type 0} (p q : X → Bool) (r : ℕ → Bool) (number : X → ℕ) (x : X) (xs : List X)
    → (p x && (q x && r (number x))) ≡ true
    → numbers_of p q r number (x ∷ xs) ≡ number x ∷ numbers_of p q r number xs
one_more {X} p q r number x xs h = go (p x) (q x) (r (number x)) refl refl refl h
  where
    go : (a b c : Bool) → p x ≡ a → q x ≡ b → r (number x) ≡ c → (a && (b && c)) ≡ true
        → numbers_of p q r number (x ∷ xs) ≡ number x ∷ numbers_of p q r number xs
    go true true true e f g h = rw (e, f, g) refl
    go true true false e f g h = cc
    go true false c e f g h = cc
    go false b c e f g h = cc

no_more : {X : Type 0} (p q : X → Bool) (r : ℕ → Bool) (number : X → ℕ) (x : X) (xs : List X)
    → (p x && (q x && r (number x))) ≡ false → numbers_of p q r number (x ∷ xs) ≡ numbers_of p q r number xs
no_more {X} p q r number x xs h = go (p x) (q x) (r (number x)) refl refl refl h
  where
    go : (a b c : Bool) → p x ≡ a → q x ≡ b → r (number x) ≡ c → (a && (b && c)) ≡ false
        → numbers_of p q r number (x ∷ xs) ≡ numbers_of p q r number xs
    go true true true e f g h = cc
    go true true false e f g h = rw (e, f, g) refl
    go true false c e f g h = rw (e, f) refl
    go false b c e f g h = rw e refl

-- of two tests that hold the first holds, and says that two numbers are one
pub first_passes : (n m : ℕ) (a b : Bool) → a ≡ ((n == m) && b) → a ≡ true → n ≡ m
first_passes n m a b test h = eqb-true n m (go (n == m) (sym test ∙ h))
  where
    go : (a : Bool) → (a && b) ≡ true → a ≡ true
    go true k = refl
    go false k = k

-- an item that passes
pub lowest_with : {X : Type 0} (p q : X → Bool) (r : ℕ → Bool) (number : X → ℕ) (x : X) (xs : List X)
    (all before : Option ℕ) → (p x && (q x && r (number x))) ≡ true
    → all ≡ lower_of before (least (numbers_of p q r number (x ∷ xs)))
    → all ≡ lower_of (Some (lesser (number x) before)) (least (numbers_of p q r number xs))
lowest_with p q r number x xs all before h e =
    e ∙ ap (λ (l : List ℕ). lower_of before (least l)) (one_more p q r number x xs h)
    ∙ lower_further before (number x) (least (numbers_of p q r number xs))

-- an item that does not
pub lowest_without : {X : Type 0} (p q : X → Bool) (r : ℕ → Bool) (number : X → ℕ) (x : X) (xs : List X)
    (all before : Option ℕ) → (p x && (q x && r (number x))) ≡ false
    → all ≡ lower_of before (least (numbers_of p q r number (x ∷ xs)))
    → all ≡ lower_of before (least (numbers_of p q r number xs))
lowest_without p q r number x xs all before h e =
    e ∙ ap (λ (l : List ℕ). lower_of before (least l)) (no_more p q r number x xs h)

-- the first item of a walk, where a call tells that it passes
pub lowest_taken : {X : Type 0} (p q : X → Bool) (r : ℕ → Bool) (number : X → ℕ) (x : X) (whole xs : List X)
    (all before : Option ℕ) (n : ℕ) (b : Bool) → whole ≡ x ∷ xs → b ≡ (p x && (q x && r (number x))) → b ≡ true
    → n ≡ lesser (number x) before → all ≡ lower_of before (least (numbers_of p q r number whole))
    → all ≡ lower_of (Some n) (least (numbers_of p q r number xs))
lowest_taken {X} p q r number x whole xs all before n b is test h lower e =
    lowest_with p q r number x xs all before (sym test ∙ h)
    (e ∙ ap (λ (l : List X). lower_of before (least (numbers_of p q r number l))) is)
    ∙ ap (λ (m : ℕ). lower_of (Some m) (least (numbers_of p q r number xs))) (sym lower)

-- and where it tells that it does not
pub lowest_passed : {X : Type 0} (p q : X → Bool) (r : ℕ → Bool) (number : X → ℕ) (x : X) (whole xs : List X)
    (all before : Option ℕ) (b : Bool) → whole ≡ x ∷ xs → b ≡ (p x && (q x && r (number x))) → b ≡ false
    → all ≡ lower_of before (least (numbers_of p q r number whole))
    → all ≡ lower_of before (least (numbers_of p q r number xs))
lowest_passed {X} p q r number x whole xs all before b is test h e =
    lowest_without p q r number x xs all before (sym test ∙ h)
    (e ∙ ap (λ (l : List X). lower_of before (least (numbers_of p q r number l))) is)

-- among those whom another test lets pass too, where each that counts passes it
pub numbers_among : {X : Type 0} (P : X → Type 0) (p q : X → Bool) (r : ℕ → Bool) (number : X → ℕ) (s : X → Bool)
    (xs : List X) → ((x : X) → P x → (p x && (q x && r (number x))) ≡ true → s x ≡ true) → AllByRecursion P xs
    → numbers_of p q r number (filter s xs) ≡ numbers_of p q r number xs
numbers_among P p q r number s [] h a = refl
numbers_among {X} P p q r number s (x ∷ xs) h a =
    go (p x && (q x && r (number x))) (s x) refl refl (numbers_among P p q r number s xs h a.1)
  where
    kept : (c : Bool) → s x ≡ c
        → numbers_of p q r number (filter s (x ∷ xs))
        ≡ numbers_of p q r number (cond c (x ∷ filter s xs) (filter s xs))
    kept c f = ap (λ (b : Bool). numbers_of p q r number (cond b (x ∷ filter s xs) (filter s xs))) f

    go : (b c : Bool) → (p x && (q x && r (number x))) ≡ b → s x ≡ c
        → numbers_of p q r number (filter s xs) ≡ numbers_of p q r number xs
        → numbers_of p q r number (filter s (x ∷ xs)) ≡ numbers_of p q r number (x ∷ xs)
    go true true e f ih =
        kept true f ∙ one_more p q r number x (filter s xs) e ∙ ap (λ (l : List ℕ). number x ∷ l) ih
        ∙ sym (one_more p q r number x xs e)
    go true false e f ih = absurd (let t : false ≡ true = sym f ∙ h x a.0 e in cc)
    go false true e f ih =
        kept true f ∙ no_more p q r number x (filter s xs) e ∙ ih ∙ sym (no_more p q r number x xs e)
    go false false e f ih = kept false f ∙ ih ∙ sym (no_more p q r number x xs e)
