-- One item further in a walk that puts what items give behind a list.
use Rattle.std.proofs.Common.{◌≡◌, ℕ, ◌+◌, ◌<◌, List, ◌++◌, drop, get_or, length, flat_map}
use Rattle.std.proofs.Common.{ap, ◌∙◌}
use Rattle.std.specs.List.{enumerate_from}
use Rattle.lemmas.proofs.Lists.{drop_here, regroup}

-- lists, by items with their places
pub placed_lists_more : {X Y : Type 0} (f : ℕ × X → List Y) (xs : List X) (i : ℕ) (x : X) (all now new : List Y)
    → i < length xs → x ≡ get_or xs i x → new ≡ now ++ f (i, x)
    → all ≡ now ++ flat_map f (enumerate_from i (drop i xs)) → all ≡ new ++ flat_map f (enumerate_from (i + 1) (drop (i + 1) xs))
placed_lists_more f xs i x all now new low at is before =
    regroup all now new (f (i, x)) (flat_map f (enumerate_from (i + 1) (drop (i + 1) xs))) is
    (before ∙ ap (λ l. now ++ flat_map f (enumerate_from i l)) (drop_here xs i x low at))
