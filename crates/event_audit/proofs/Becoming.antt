-- What the dependencies of a draft become, compared with those of a document, one further.
use Rattle.std.proofs.Common.{[], ℕ, ◌+◌, ◌∙◌, ◌∷◌, ◌≡◌, ◌≤◌, List, None, Option, Some, ap, arith, drop, filter_map}
use Rattle.std.proofs.Common.{length, refl, suc, sym, zero}
use Rattle.std.specs.Prelude.{slice_get}
use Rattle.lemmas.proofs.Lists.{drop_at_end}
use Rattle.event_audit.proofs.Behind.{left_some}
use Rattle.event_audit.proofs.Passing.{given, none_given, skipped}

-- the first of what is left
first_left : {Y : Type 0} (ys : List Y) (n : ℕ) (y : Y) (rest : List Y) → drop n ys ≡ y ∷ rest
    → slice_get ys n ≡ Some y
first_left [] zero y rest e = cc
first_left [] (suc n) y rest e = cc
first_left (z ∷ ys) zero y rest e = cc
first_left (z ∷ ys) (suc n) y rest e = first_left ys n y rest e

module _ {X Y : Type 0} (f : X → Option Y) where
  -- what is left becomes what is left
  abbrev pub Becomes : List X → ℕ → List Y → ℕ → Type 0
  Becomes xs i ys n = filter_map f (drop i xs) ≡ drop n ys

  pub becomes_skipped : (xs : List X) (i : ℕ) (x : X) (ys : List Y) (n : ℕ) → slice_get xs i ≡ Some x → f x ≡ None
      → Becomes xs i ys n → Becomes xs (i + 1) ys n
  becomes_skipped xs i x ys n there e h = sym (skipped f xs i x there e) ∙ h

  pub skipped_becomes : (xs : List X) (i : ℕ) (x : X) (ys : List Y) (n : ℕ) → slice_get xs i ≡ Some x → f x ≡ None
      → Becomes xs (i + 1) ys n → Becomes xs i ys n
  skipped_becomes xs i x ys n there e h = skipped f xs i x there e ∙ h

  -- it becomes what stands there
  pub becomes_more : (xs : List X) (i : ℕ) (x : X) (ys : List Y) (n : ℕ) (y : Y) → slice_get xs i ≡ Some x
      → f x ≡ Some y → slice_get ys n ≡ Some y → Becomes xs i ys n → Becomes xs (i + 1) ys (n + 1)
  becomes_more xs i x ys n y there e here h =
      tail (sym (given f xs i x y there e) ∙ h ∙ left_some ys n y here)
    where
      tail : {a b : Y} {as_ bs : List Y} → a ∷ as_ ≡ b ∷ bs → as_ ≡ bs
      tail e = cc

  pub more_becomes : (xs : List X) (i : ℕ) (x : X) (ys : List Y) (n : ℕ) (y : Y) → slice_get xs i ≡ Some x
      → f x ≡ Some y → slice_get ys n ≡ Some y → Becomes xs (i + 1) ys (n + 1) → Becomes xs i ys n
  more_becomes xs i x ys n y there e here h =
      given f xs i x y there e ∙ ap (λ (l : List Y). y ∷ l) h ∙ sym (left_some ys n y here)

  -- it becomes what does not stand there
  pub becomes_other : (xs : List X) (i : ℕ) (x : X) (ys : List Y) (n : ℕ) (y : Y) → slice_get xs i ≡ Some x
      → f x ≡ Some y → (slice_get ys n ≡ Some y → ⊥) → Becomes xs i ys n → ⊥
  becomes_other xs i x ys n y there e apart h =
      apart (first_left ys n y (filter_map f (drop (i + 1) xs)) (sym h ∙ given f xs i x y there e))

  -- all are passed
  pub become_all : (xs : List X) (i : ℕ) (ys : List Y) (n : ℕ) → length xs ≤ i → n ≡ length ys → Becomes xs i ys n
  become_all xs i ys n all e = none_given f xs i all ∙ sym (drop_at_end ys n (omega (arith, e)))

  pub all_became : (xs : List X) (i : ℕ) (ys : List Y) (n : ℕ) → length xs ≤ i → n ≤ length ys → Becomes xs i ys n
      → n ≡ length ys
  all_became xs i ys n all within h = go ys n within (sym h ∙ none_given f xs i all)
    where
      go : (ys : List Y) (n : ℕ) → n ≤ length ys → drop n ys ≡ [] → n ≡ length ys
      go [] zero w e = refl
      go [] (suc n) w e = absurd (omega (arith, w))
      go (y ∷ ys) zero w e = cc
      go (y ∷ ys) (suc n) w e = ap suc (go ys n (omega (arith, w)) e)
