-- Whether a list is a part of another, one item further.
use Rattle.std.proofs.Common.{[], ℕ, ◌+◌, ◌∷◌, ◌≡◌, ◌≤◌, List, Some, ap, arith, drop, inl, inr, length}
use Rattle.std.proofs.Common.{refl, subst, suc, sym, true, zero}
use Rattle.std.proofs.lemmas.Bool.Decides.{eqb_tells}
use Rattle.std.proofs.lemmas.Option.{slice_get_within}
use Rattle.std.specs.Bool.{Decides}
use Rattle.std.specs.Prelude.{◌==◌, slice_get}
use Rattle.lemmas.proofs.Lists.{drop_at_end}
use Rattle.model.specs.Words.{IsPartOf}
use Rattle.event_audit.proofs.Behind.{left_some}

-- a part of more is a part
wider : (xs ys : List ℕ) (y : ℕ) → IsPartOf xs ys → IsPartOf xs (y ∷ ys)
wider [] ys y h = tt
wider (x ∷ xs) ys y h = inr h

-- and what follows the first of a part is one
narrower : (x : ℕ) (xs ys : List ℕ) → IsPartOf (x ∷ xs) ys → IsPartOf xs ys
narrower x xs [] h = absurd h
narrower x xs (y ∷ ys) (inl h) = wider xs ys y h.1
narrower x xs (y ∷ ys) (inr h) = wider xs ys y (narrower x xs ys h)

met : (x : ℕ) (xs ys : List ℕ) → IsPartOf (x ∷ xs) (x ∷ ys) → IsPartOf xs ys
met x xs ys (inl h) = h.1
met x xs ys (inr h) = narrower x xs ys h

passed : (xs ys : List ℕ) (y : ℕ) → ((zs : List ℕ) → xs ≡ y ∷ zs → ⊥) → IsPartOf xs (y ∷ ys) → IsPartOf xs ys
passed [] ys y apart h = tt
passed (x ∷ xs) ys y apart (inl h) = absurd (apart xs (same x y xs h.0))
  where
    same : (x y : ℕ) (xs : List ℕ) → x ≡ y → x ∷ xs ≡ y ∷ xs
    same x y xs e = cc
passed (x ∷ xs) ys y apart (inr h) = h

-- the next of the part is found
pub found_forth : (part whole : List ℕ) (found i : ℕ) (y : ℕ) → slice_get whole i ≡ Some y
    → slice_get part found ≡ Some y → IsPartOf (drop found part) (drop i whole)
    → IsPartOf (drop (found + 1) part) (drop (i + 1) whole)
found_forth part whole found i y there here h =
    met y (drop (found + 1) part) (drop (i + 1) whole)
    (subst (λ (l : List ℕ). IsPartOf l (y ∷ drop (i + 1) whole)) (left_some part found y here)
    (subst (λ (l : List ℕ). IsPartOf (drop found part) l) (left_some whole i y there) h))

pub found_back : (part whole : List ℕ) (found i : ℕ) (y : ℕ) → slice_get whole i ≡ Some y
    → slice_get part found ≡ Some y → IsPartOf (drop (found + 1) part) (drop (i + 1) whole)
    → IsPartOf (drop found part) (drop i whole)
found_back part whole found i y there here h =
    subst (λ (l : List ℕ). IsPartOf (drop found part) l) (sym (left_some whole i y there))
    (subst (λ (l : List ℕ). IsPartOf l (y ∷ drop (i + 1) whole)) (sym (left_some part found y here)) (inl (refl, h)))

-- it is not
pub passed_forth : (part whole : List ℕ) (found i : ℕ) (y : ℕ) → slice_get whole i ≡ Some y
    → (slice_get part found ≡ Some y → ⊥) → IsPartOf (drop found part) (drop i whole)
    → IsPartOf (drop found part) (drop (i + 1) whole)
passed_forth part whole found i y there apart h =
    passed (drop found part) (drop (i + 1) whole) y (λ zs e. apart (first part found y zs e))
    (subst (λ (l : List ℕ). IsPartOf (drop found part) l) (left_some whole i y there) h)
  where
    first : (xs : List ℕ) (n y : ℕ) (zs : List ℕ) → drop n xs ≡ y ∷ zs → slice_get xs n ≡ Some y
    first [] zero y zs e = cc
    first [] (suc n) y zs e = cc
    first (x ∷ xs) zero y zs e = cc
    first (x ∷ xs) (suc n) y zs e = first xs n y zs e

pub passed_back : (part whole : List ℕ) (found i : ℕ) (y : ℕ) → slice_get whole i ≡ Some y
    → IsPartOf (drop found part) (drop (i + 1) whole) → IsPartOf (drop found part) (drop i whole)
passed_back part whole found i y there h =
    subst (λ (l : List ℕ). IsPartOf (drop found part) l) (sym (left_some whole i y there))
    (wider (drop found part) (drop (i + 1) whole) y h)

-- the whole is passed: it has the part where nothing of that is left
pub part_done : (part whole : List ℕ) (found i : ℕ) → length whole ≤ i → found ≡ length part
    → IsPartOf (drop found part) (drop i whole)
part_done part whole found i all e =
    subst (λ (l : List ℕ). IsPartOf l (drop i whole)) (sym (drop_at_end part found (omega (arith, e)))) tt

pub part_left : (part whole : List ℕ) (found i : ℕ) → length whole ≤ i → found ≤ length part
    → IsPartOf (drop found part) (drop i whole) → found ≡ length part
part_left part whole found i all within h =
    go part found within (subst (λ (l : List ℕ). IsPartOf (drop found part) l) (drop_at_end whole i all) h)
  where
    go : (xs : List ℕ) (n : ℕ) → n ≤ length xs → IsPartOf (drop n xs) [] → n ≡ length xs
    go [] zero w g = refl
    go [] (suc n) w g = absurd (omega (arith, w))
    go (x ∷ xs) zero w g = absurd g
    go (x ∷ xs) (suc n) w g = ap suc (go xs n (omega (arith, w)) g)

-- of the part the first are found among what is passed of the whole
abbrev pub IsFoundSoFar : List ℕ → List ℕ → ℕ → ℕ → Type 0
IsFoundSoFar part whole found i =
    record {
      within : found ≤ length part;
      forth : IsPartOf part whole → IsPartOf (drop found part) (drop i whole);
      back : IsPartOf (drop found part) (drop i whole) → IsPartOf part whole;
    }

pub one_found : (part whole : List ℕ) (found i y next : ℕ) → slice_get whole i ≡ Some y
    → slice_get part found ≡ Some y → next ≡ found + 1 → IsFoundSoFar part whole found i
    → IsFoundSoFar part whole next (i + 1)
one_found part whole found i y next there here e h =
    subst (λ (n : ℕ). IsFoundSoFar part whole n (i + 1)) (sym e)
    (record {
      within = let less = slice_get_within part found y here in omega (arith, less);
      forth = λ p. found_forth part whole found i y there here (h.forth p);
      back = λ p. h.back (found_back part whole found i y there here p);
    })

pub one_passed : (part whole : List ℕ) (found i y next : ℕ) → slice_get whole i ≡ Some y
    → (slice_get part found ≡ Some y → ⊥) → next ≡ found → IsFoundSoFar part whole found i
    → IsFoundSoFar part whole next (i + 1)
one_passed part whole found i y next there apart e h =
    subst (λ (n : ℕ). IsFoundSoFar part whole n (i + 1)) (sym e)
    (record {
      within = h.within;
      forth = λ p. passed_forth part whole found i y there apart (h.forth p);
      back = λ p. h.back (passed_back part whole found i y there p);
    })

-- the whole is passed: it has the part where all of that is found
pub all_found : (part whole : List ℕ) (found i : ℕ) → length whole ≤ i → IsFoundSoFar part whole found i
    → Decides (found == length part) (IsPartOf part whole)
all_found part whole found i all h = (
  λ e. h.back (part_done part whole found i all (eq_so found (length part) e)),
  λ p. so_eq found (length part) (part_left part whole found i all h.within (h.forth p)),
)
  where
    eq_so : (a b : ℕ) → (a == b) ≡ true → a ≡ b
    eq_so a b e = elim (eqb_tells a b) [ inl t ↦ t.1 | inr t ↦ cc ]

    so_eq : (a b : ℕ) → a ≡ b → (a == b) ≡ true
    so_eq a b e = elim (eqb_tells a b) [ inl t ↦ t.0 | inr t ↦ absurd (t.1 e) ]
