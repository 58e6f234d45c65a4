-- What the row of a resource tells of the events of one workstation.
use Rattle.std.specs.Prelude.{ℕ, ◌≡◌, List, Option, option_and_then, unwrap_or}
use Rattle.model.specs.Types.{Body}
use Rattle.model.specs.Facts.{obeyed_command, total, total_in}

-- the total that was set last for resource r, if one was
abbrev pub IsTotalRow : List Body → ℕ → Option ℕ → Type 0
IsTotalRow events r set = (defined : ℕ) → unwrap_or set defined ≡ total r defined events

-- the total of resource r that a body sets
abbrev pub total_said : ℕ → Body → Option ℕ
total_said r b = option_and_then (total_in r) (obeyed_command b)
