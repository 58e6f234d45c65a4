-- Two lists that are compared item by item.
use Rattle.std.proofs.Common.{[], ℕ, ◌+◌, ◌<◌, ◌≤◌, ◌∙◌, ◌∷◌, ◌≡◌, List, Some, ap, arith, inl, inr, length, refl, subst}
use Rattle.std.proofs.Common.{suc, sym}
use Rattle.std.specs.Prelude.{slice_get}
use Rattle.lemmas.proofs.Numbers.{below_or_last}
use Rattle.lemmas.proofs.Options.{some_same}

-- the items below a place are the same
abbrev pub AreSameBelow : {X : Type 0} → List X → List X → ℕ → Type 0
AreSameBelow a b i = (k : ℕ) → k < i → slice_get a k ≡ slice_get b k

-- one item more is the same
pub same_more : {X : Type 0} (a b : List X) (i : ℕ) (x y : X) → AreSameBelow a b i → slice_get a i ≡ Some x
    → slice_get b i ≡ Some y → x ≡ y → AreSameBelow a b (i + 1)
same_more a b i x y h there here same k less =
    elim (below_or_last k i less) [
      | inl f ↦ h k f
      | inr e ↦ subst (λ (m : ℕ). slice_get a m ≡ slice_get b m) (sym e) (there ∙ ap Some same ∙ sym here)
    ]

-- all are
pub same_all : {X : Type 0} (a b : List X) → length a ≡ length b → AreSameBelow a b (length a) → a ≡ b
same_all [] [] e h = refl
same_all [] (y ∷ b) e h = absurd (omega (arith, e))
same_all (x ∷ a) [] e h = absurd (omega (arith, e))
same_all (x ∷ a) (y ∷ b) e h =
    let first : x ≡ y = some_same x y (h 0 (omega arith)) in
    let rest : a ≡ b = same_all a b (omega (arith, e)) (λ k less. h (suc k) (omega (arith, less))) in
    cc

-- a walk over all of them told so
pub same_by : {X : Type 0} (a b : List X) (i : ℕ) → length a ≡ length b → length a ≤ i → AreSameBelow a b i → a ≡ b
same_by a b i e all h = same_all a b e (λ k less. h k (omega (arith, less, all)))
