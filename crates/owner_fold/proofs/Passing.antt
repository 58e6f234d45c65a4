-- The items at codes that pass a test, one code further.
use Rattle.std.proofs.Common.{[], ℕ, ◌+◌, ◌-◌, ◌<◌, ◌≤◌, ◌∷◌, ◌≡◌, Bool, List, Option, Some, drop, filter, filter_map}
use Rattle.std.proofs.Common.{get_or, length, refl, take, true}
use Rattle.std.proofs.lemmas.List.{drop_all, drop_more, take_rest}

-- the item of this code passes
pub passes_next : {X : Type 0} (f : ℕ → Option X) (p : X → Bool) (codes : List ℕ) (i : ℕ) (x : X) → i < length codes
    → f (get_or codes i 0) ≡ Some x → p x ≡ true
    → filter p (filter_map f (drop i codes))
    ≡ x ∷ filter p (filter_map f (take (length codes - (i + 1)) (drop (i + 1) codes)))
passes_next f p codes i x h found passes = rw (drop_more codes i 0 h, found, passes, take_rest codes (i + 1)) refl

-- no code is left
pub none_passes : {X : Type 0} (f : ℕ → Option X) (p : X → Bool) (codes : List ℕ) (i : ℕ) → length codes ≤ i
    → filter p (filter_map f (drop i codes)) ≡ []
none_passes f p codes i h = rw (drop_all i codes h) refl

-- without a test
pub next_found : {X Y : Type 0} (f : X → Option Y) (xs : List X) (i : ℕ) (none : X) (y : Y) → i < length xs
    → f (get_or xs i none) ≡ Some y
    → filter_map f (drop i xs) ≡ y ∷ filter_map f (take (length xs - (i + 1)) (drop (i + 1) xs))
next_found f xs i none y h found = rw (drop_more xs i none h, found, take_rest xs (i + 1)) refl

pub none_found : {X Y : Type 0} (f : X → Option Y) (xs : List X) (i : ℕ) → length xs ≤ i
    → filter_map f (drop i xs) ≡ []
none_found f xs i h = rw (drop_all i xs h) refl
