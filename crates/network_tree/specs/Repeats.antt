-- Items of a list that stand before.
use Rattle.std.specs.List.{list_any}
use Rattle.std.specs.Option.{option_map_or}
use Rattle.std.specs.Prelude.{ℕ, Bool, List, false, length, slice_get, take}
use Rattle.model.specs.Words.{below}

-- the item at place i, counted from 0, is the same as one before it
abbrev pub stands_before : {X : Type 0} → (X → X → Bool) → List X → ℕ → Bool
stands_before same xs i = option_map_or (λ x. list_any (same x) (take i xs)) (slice_get xs i) false

-- some item stands before
abbrev pub has_repeat : {X : Type 0} → (X → X → Bool) → List X → Bool
has_repeat same xs = list_any (stands_before same xs) (below (length xs))
