-- Sets of days.
use Rattle.std.specs.Prelude.{ℕ, Bool, List, ◌==◌}
use Rattle.std.specs.List.{list_any}

-- whether the day is one of these
abbrev pub has : List ℕ → ℕ → Bool
has days day = list_any (λ one. day == one) days
