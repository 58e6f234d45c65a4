-- The codes of places in groups.
use Rattle.std.specs.Prelude.{[], ℕ, ◌&&◌, ◌*◌, ◌+◌, ◌^◌, ◌∷◌, ◌≤◌, Bool, List, nat_le, nat_lt}

-- a group has 2^32 places
abbrev pub code : ℕ → ℕ → ℕ
code group place = group * 2 ^ 32 + place

-- the code is one of the group
abbrev pub is_in_group : ℕ → ℕ → Bool
is_in_group group c = nat_le (group * 2 ^ 32) c && nat_lt c (group * 2 ^ 32 + 2 ^ 32)

-- the codes ascend, each once, and none is below this one
abbrev pub RisesFrom : ℕ → List ℕ → Type 0
RisesFrom least [] = Unit {0}
RisesFrom least (c ∷ cs) = (least ≤ c) × RisesFrom (c + 1) cs
