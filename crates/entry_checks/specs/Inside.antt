-- Which workstations are in a network.
use Rattle.std.specs.List.{list_all}
use Rattle.std.specs.Prelude.{ℕ, Bool, List, nat_lt}

-- each of them is in a network of so many
abbrev pub are_inside : ℕ → List ℕ → Bool
are_inside count ws = list_all (λ w. nat_lt w count) ws
