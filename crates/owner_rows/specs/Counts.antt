-- How many entries of each feed were taken.
use Rattle.std.specs.Prelude.{ℕ, ◌+◌, ◌≡◌, List, length}
use Rattle.model.specs.Types.{Entry, Events, Feed, Orders}
use Rattle.model.specs.History.{list_of}
use Rattle.owner_rows.specs.Tables.{row_in}
use Rattle.owner_rows.specs.declared.tables.Table.{Table}

-- the key of a feed: events under 0, orders under their issuer's number and one
abbrev pub feed_key : Feed → ℕ × ℕ
feed_key (Events w) = (w, 0)
feed_key (Orders a w) = (w, a + 1)

-- each feed has so many entries
abbrev pub AreCounts : List Entry → Table ℕ → Type 0
AreCounts kept t = (f : Feed) → row_in t (feed_key f) ≡ length (list_of kept f)
