-- Who takes over by the events of the master.
use Rattle.std.specs.Prelude.{ℕ, List, filter_map}
use Rattle.model.specs.Types.{Body}
use Rattle.model.specs.Facts.{commands}
use Rattle.model.specs.PresentNet.{switch_in}

-- those of the switches that were obeyed, in order
abbrev pub switches_in : List Body → List ℕ
switches_in events = filter_map switch_in (commands events)
