-- The table that is kept beside a network.
use Rattle.std.specs.Prelude.{ℕ, List, map, unwrap_or}
use Rattle.model.specs.Network.{node_count, towards}
use Rattle.model.specs.Types.{Net}
use Rattle.model.specs.Words.{below}

-- the neighbour of a on the way to b, and a itself where they are one
abbrev pub way : Net → ℕ → ℕ → ℕ
way net a b = unwrap_or (towards net a b) a

-- the ways to b, from each workstation
abbrev pub row : Net → ℕ → List ℕ
row net b = map (λ a. way net a b) (below (node_count net))

-- the ways to each workstation
abbrev pub table : Net → List (List ℕ)
table net = map (row net) (below (node_count net))
