-- Two lists that are compared item by item.
use Rattle.std.proofs.Common.{[], ℕ, ◌+◌, ◌<◌, ◌≤◌, ◌∙◌, ◌∷◌, ◌≡◌, List, Some, ap, arith, inl, inr, length, refl}
use Rattle.std.proofs.Common.{subst, suc, sym}
use Rattle.std.specs.Prelude.{slice_get}
use Rattle.lemmas.proofs.Numbers.{below_or_last}
use Rattle.lemmas.proofs.Options.{some_same}

-- the items below a place are the same
abbrev pub AreAlikeBelow : {X : Type 0} → List X → List X → ℕ → Type 0
AreAlikeBelow a b i = (k : ℕ) → k < i → slice_get a k ≡ slice_get b k

pub alike_more : {X : Type 0} (a b : List X) (i : ℕ) (x y : X) → AreAlikeBelow a b i → slice_get a i ≡ Some x
    → slice_get b i ≡ Some y → x ≡ y → AreAlikeBelow a b (i + 1)
alike_more a b i x y h there here same k less =
    elim (below_or_last k i less) [
      | inl f ↦ h k f
      | inr e ↦ subst (λ (m : ℕ). slice_get a m ≡ slice_get b m) (sym e) (there ∙ ap Some same ∙ sym here)
    ]

all_alike : {X : Type 0} (a b : List X) → length a ≡ length b → AreAlikeBelow a b (length a) → a ≡ b
all_alike [] [] e h = refl
all_alike [] (y ∷ b) e h = absurd (omega (arith, e))
all_alike (x ∷ a) [] e h = absurd (omega (arith, e))
all_alike (x ∷ a) (y ∷ b) e h =
    let first : x ≡ y = some_same x y (h 0 (omega arith)) in
    let rest : a ≡ b = all_alike a b (omega (arith, e)) (λ k less. h (suc k) (omega (arith, less))) in
    cc

pub alike_by : {X : Type 0} (a b : List X) (i : ℕ) → length a ≡ length b → length a ≤ i → AreAlikeBelow a b i → a ≡ b
alike_by a b i e all h = all_alike a b e (λ k less. h k (omega (arith, less, all)))
