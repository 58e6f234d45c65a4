-- What was put behind a front is put behind all that stood before the front, and what holds of all items so far.
use Rattle.std.proofs.Common.{◌≡◌, ◌<◌, ◌+◌, ℕ, suc, List, [], ◌∷◌, ◌++◌, length, take, Result, Ok, Err, ap, ◌∙◌, append_assoc, subst, sym}
use Rattle.std.proofs.Common.{add-one, slice_index_or}
use Rattle.std.proofs.Math.Seq.{take-suc}
use Rattle.std.proofs.lemmas.Grind.{flat_map-append}
use Rattle.std.proofs.lemmas.List.{append-nil}
use Rattle.std.proofs.lemmas.List.Elements.{All-push}
use Rattle.std.specs.List.{All, flat_map}
use Rattle.std.specs.Result.{OnOk}

pub behind_a_front : {X E : Type 0} (r : Result X E) (old front last now new : List ℕ) → now ≡ old ++ front
    → OnOk r (new ≡ now ++ last) → OnOk r (new ≡ old ++ (front ++ last))
behind_a_front (Ok x) old front last now new e h =
    h ∙ ap (λ (l : List ℕ). l ++ last) e ∙ append_assoc old front last
behind_a_front (Err d) old front last now new e h = tt

-- one item more
pub all_further : {X : Type 0} (P : X → Type 0) (xs : List X) (i : ℕ) (d : X) → i < length xs
    → P (slice_index_or xs i d) → All P (take i xs) → All P (take (i + 1) xs)
all_further P xs i d low holds before =
    let e : take (i + 1) xs ≡ take i xs ++ slice_index_or xs i d ∷ [] = ap (λ n. take n xs) (add-one i) ∙ take-suc xs i d low in
    subst (All P) (sym e) (All-push P (take i xs) (slice_index_or xs i d) before holds)

pub added_further : {X : Type 0} (f : X → List ℕ) (xs : List X) (i : ℕ) (d : X) (old head now new : List ℕ)
    → i < length xs → now ≡ old ++ (head ++ flat_map f (take i xs)) → new ≡ now ++ f (slice_index_or xs i d)
    → new ≡ old ++ (head ++ flat_map f (take (i + 1) xs))
added_further f xs i d old head now new low before is =
    let x = slice_index_or xs i d in
    let e : take (i + 1) xs ≡ take i xs ++ x ∷ [] = ap (λ n. take n xs) (add-one i) ∙ take-suc xs i d low in
    let more : flat_map f (take (i + 1) xs) ≡ flat_map f (take i xs) ++ f x =
    ap (flat_map f) e ∙ flat_map-append f (take i xs) (x ∷ []) ∙ ap (λ l. flat_map f (take i xs) ++ l) (append-nil (f x)) in
    is ∙ ap (λ l. l ++ f x) before ∙ append_assoc old (head ++ flat_map f (take i xs)) (f x)
    ∙ ap (λ l. old ++ l) (append_assoc head (flat_map f (take i xs)) (f x)) ∙ ap (λ l. old ++ (head ++ l)) (sym more)
