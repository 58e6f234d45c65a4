-- Workstations among whose feeds of events are all that go to a neighbour.
use Rattle.std.specs.List.{AllByRecursion}
use Rattle.std.specs.Prelude.{◌≡◌, ◌<◌, ℕ, List, Option, Some, filter, map, slice_get}
use Rattle.model.specs.Types.{Events, Net}
use Rattle.model.specs.Words.{below}
use Rattle.model.specs.Network.{node_count}
use Rattle.model.specs.History.{View}
use Rattle.model.specs.Forwarding.{forwards}

-- they are in the network, and of their feeds and of all feeds of events n passes on the same to m
pub record IsListed (net : Net) (V : View) (n m : ℕ) (ws : List ℕ) : Type 0 where
  pub inside : AllByRecursion (λ (w : ℕ). w < node_count net) ws
  pub same : filter (forwards net V n m) (map Events ws)
      ≡ filter (forwards net V n m) (map Events (below (node_count net)))

-- each row that is there is that of the workstation by whose number it stands
abbrev pub AreListed : Net → View → ℕ → List (Option (List ℕ)) → Type 0
AreListed net V n rows = (m : ℕ) (ws : List ℕ) → slice_get rows m ≡ Some (Some ws) → IsListed net V n m ws
