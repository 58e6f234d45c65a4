-- One item more in a walk, and what holds where a call fails.
use Rattle.std.proofs.Common.{◌≡◌, ◌<◌, ◌≤◌, ◌+◌, ℕ, List, [], ◌∷◌, ◌++◌, length, take, ap, ◌∙◌, subst, sym}
use Rattle.std.proofs.Common.{add-one, get_or}
use Rattle.std.proofs.Math.Seq.{take-suc}
use Rattle.std.proofs.lemmas.List.{take_all}
use Rattle.std.proofs.lemmas.List.Elements.{All-push}
use Rattle.std.specs.List.{All}

-- one item more
pub all_further : {X : Type 0} (P : X → Type 0) (xs : List X) (i : ℕ) (x : X) → i < length xs → x ≡ get_or xs i x
    → P x → All P (take i xs) → All P (take (i + 1) xs)
all_further P xs i x low is holds before =
    let e : take (i + 1) xs ≡ take i xs ++ x ∷ [] =
    ap (λ n. take n xs) (add-one i) ∙ take-suc xs i x low ∙ ap (λ y. take i xs ++ y ∷ []) (sym is) in
    subst (All P) (sym e) (All-push P (take i xs) x before holds)

-- no item is left
pub all_of : {X : Type 0} (P : X → Type 0) (xs : List X) (i : ℕ) → length xs ≤ i → All P (take i xs) → All P xs
all_of P xs i high h = subst (All P) (take_all i xs high) h
