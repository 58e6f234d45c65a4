-- The four agents of the network.
use Rattle.std.specs.Prelude.{ℕ, List, [], ◌∷◌, ◌++◌, flat_map}
use Rattle.std.specs.Fmt.{decimal}

abbrev pub agents : List ℕ
agents = 1 ∷ 2 ∷ 3 ∷ 4 ∷ []

-- a text with the number of an agent in it
abbrev pub around : List ℕ → List ℕ → ℕ → List ℕ
around before behind agent = before ++ decimal agent ++ behind

-- a text for each agent, with its number in it
unfoldable pub each : List ℕ → List ℕ → List ℕ
each before behind = flat_map (around before behind) agents
