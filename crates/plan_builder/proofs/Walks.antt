-- One item further in a walk that puts what items give behind a list.
use Rattle.std.proofs.Common.{◌≡◌, ℕ, ◌+◌, ◌<◌, List, ◌++◌, drop, get_or, length, flat_map}
use Rattle.std.proofs.Common.{ap, ◌∙◌}
use Rattle.lemmas.proofs.Lists.{drop_here, regroup}

-- lists
pub lists_more : {X Y : Type 0} (f : X → List Y) (xs : List X) (i : ℕ) (x : X) (all now new : List Y)
    → i < length xs → x ≡ get_or xs i x → new ≡ now ++ f x
    → all ≡ now ++ flat_map f (drop i xs) → all ≡ new ++ flat_map f (drop (i + 1) xs)
lists_more f xs i x all now new low at is before =
    regroup all now new (f x) (flat_map f (drop (i + 1) xs)) is
    (before ∙ ap (λ l. now ++ l) (ap (flat_map f) (drop_here xs i x low at)))
