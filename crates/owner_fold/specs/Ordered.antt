-- Whether any order was taken.
use Rattle.std.specs.List.{list_any}
use Rattle.std.specs.Prelude.{Bool, List, false, true}
use Rattle.model.specs.Types.{Entry, Events, Feed, Orders}

-- the feed is one of orders
abbrev pub is_of_orders : Feed → Bool
is_of_orders (Events w) = false
is_of_orders (Orders a w) = true

-- an entry of such a feed was taken
unfoldable pub has_orders : List Entry → Bool
has_orders kept = list_any (λ (e : Entry). is_of_orders e.feed) kept
