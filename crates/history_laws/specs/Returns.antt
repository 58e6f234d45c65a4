-- What the text of a history can tell.
use Rattle.std.specs.Prelude.{IsTrue, List}
use Rattle.std.specs.List.{All, list_all}
use Rattle.model.specs.Fit.{AreFitEntries}
use Rattle.model.specs.Ranges.{InRange}
use Rattle.model.specs.Types.{Entry, Net, Start}
use Rattle.history_script.specs.Histories.{is_inside, is_start_inside}
use Rattle.history_script.specs.Printed.{IsStartInRange}

-- Entries that are fit to be written, and starts, each with numbers that their fields hold, and with workstations of the
-- network alone.
pub record AreTold (net : Net) (entries : List Entry) (starts : List Start) : Type 0 where
  pub fit : AreFitEntries entries
  pub in_range : All InRange entries
  pub starts_in_range : All IsStartInRange starts
  pub inside : IsTrue (list_all (is_inside net) entries)
  pub starts_inside : IsTrue (list_all (is_start_inside net) starts)
