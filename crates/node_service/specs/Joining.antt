-- How a second service of one disk goes on where the first was.
use Rattle.std.specs.Prelude.{ℕ, ◌++◌, ◌≡◌, ◌≤◌, List, length, take}
use Rattle.model.specs.Types.{Entry}
use Rattle.node_inputs.specs.Traces.{Trace, tried}

-- the entries are those that were held, and behind them at least so many of those that a run was to keep, in order and
-- none skipped
abbrev pub GoesOn : List Entry → Trace → ℕ → List Entry → Type 0
GoesOn held trace least entries =
    (n : ℕ) × (least ≤ n) × (n ≤ length (tried trace)) × (entries ≡ held ++ take n (tried trace))
