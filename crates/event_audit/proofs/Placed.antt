-- Drafts that are numbered one after the other, by their places.
use Rattle.std.proofs.Common.{[], ℕ, ◌+◌, ◌∙◌, ◌∷◌, ◌≡◌, List, Some, ap, arith, drop, length, map, refl}
use Rattle.std.proofs.Common.{suc, zero}
use Rattle.std.specs.List.{enumerate_from}
use Rattle.std.specs.Prelude.{slice_get}
use Rattle.lemmas.proofs.Options.{some_same}
use Rattle.event_audit.proofs.Behind.{left_some}

pub placed_at : {X Y : Type 0} (f : ℕ × X → Y) (first : ℕ) (xs : List X) (i : ℕ) (x : X) → slice_get xs i ≡ Some x
    → slice_get (map f (enumerate_from first xs)) i ≡ Some (f (first + i, x))
placed_at f first [] i x e = cc
placed_at {X} {Y} f first (y ∷ xs) zero x e =
    let same : first ≡ first + 0 = omega arith in
    ap (λ (z : X). Some (f (first, z))) (some_same y x e) ∙ ap (λ (n : ℕ). Some (f (n, x))) same
placed_at {X} {Y} f first (y ∷ xs) (suc i) x e =
    let same : first + 1 + i ≡ first + suc i = omega arith in
    placed_at f (first + 1) xs i x e ∙ ap (λ (n : ℕ). Some (f (n, x))) same

pub placed_length : {X Y : Type 0} (f : ℕ × X → Y) (first : ℕ) (xs : List X)
    → length (map f (enumerate_from first xs)) ≡ length xs
placed_length f first [] = refl
placed_length f first (x ∷ xs) = ap suc (placed_length f (first + 1) xs)

-- what is left of them
pub left_placed : {X : Type 0} (first : ℕ) (xs : List X) (i : ℕ) (x : X) → slice_get xs i ≡ Some x
    → enumerate_from (first + i) (drop i xs) ≡ (first + i, x) ∷ enumerate_from (first + (i + 1)) (drop (i + 1) xs)
left_placed {X} first xs i x there =
    let more : first + i + 1 ≡ first + (i + 1) = omega arith in
    ap (λ (l : List X). enumerate_from (first + i) l) (left_some xs i x there)
    ∙ ap (λ n. (first + i, x) ∷ enumerate_from n (drop (i + 1) xs)) more
