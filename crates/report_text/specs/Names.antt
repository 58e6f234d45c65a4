-- Workstations and feeds by their names.
use Rattle.std.specs.Prelude.{ℕ, List, [], ◌++◌, codes, slice_get}
use Rattle.std.specs.Option.{option_map_or}
use Rattle.base_types.specs.declared.Feed.{Feed}
use Rattle.base_types.specs.declared.Feed.TheVariants.{Events, Orders}
use Rattle.base_types.specs.declared.Net.{Net}
use Rattle.base_types.specs.declared.Node.{Node}

-- the name of a workstation, and nothing for one that is not in the network
unfoldable pub name_of : Net → ℕ → List ℕ
name_of net w = option_map_or (λ (n : Node). n.name) (slice_get net.nodes w) []

-- `W` for the events of W, `A>W` for the orders from A to W
unfoldable pub feed_text : Net → Feed → List ℕ
feed_text net (Events w) = name_of net w
feed_text net (Orders a w) = name_of net a ++ codes ">" ++ name_of net w
