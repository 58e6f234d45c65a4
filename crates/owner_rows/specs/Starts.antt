-- What the row of a launch tells of the events of one workstation.
use Rattle.std.specs.Prelude.{ℕ, ◌≡◌, Bool, List}
use Rattle.model.specs.Types.{Body}
use Rattle.model.specs.Facts.{is_started}

-- whether this launch was told as started
abbrev pub IsStartRow : List Body → ℕ × ℕ → Bool → Type 0
IsStartRow events q told = told ≡ is_started q.0 q.1 events
