-- What stands behind the last of equal numbers.
use Rattle.std.specs.Option.{option_or}
use Rattle.std.specs.Prelude.{ℕ, List, None, Option, Some, drop}
use Rattle.model.specs.Words.{has}
use Rattle.conman_orders.specs.Names.{last_that}

-- The last number, from an index on, that is s or among others: s itself where none of the others stands from the next
-- index on. Without a next index s does not stand there.
abbrev pub last_by_index : List ℕ → List ℕ → ℕ → ℕ → Option ℕ → Option ℕ
last_by_index others numbers from s None = last_that (has others) (drop from numbers)
last_by_index others numbers from s (Some next) = option_or (last_that (has others) (drop next numbers)) (Some s)
