-- Where a field stands.
use Rattle.std.specs.Prelude.{◌≡◌, ◌+◌, ◌≤◌, ℕ, List, ◌++◌, length, drop}

-- the bytes of the field stand in `from` at the place `here`, and `next` is the place behind them
abbrev pub StandsAt : List ℕ → List ℕ → ℕ → ℕ → Type 0
StandsAt field from here next =
    (drop here from ≡ field ++ drop next from) × (next ≡ here + length field) × (next ≤ length from)
