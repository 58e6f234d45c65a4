-- What a text is: a record, or its first fault.
use Rattle.std.specs.Prelude.{ℕ, ◌+◌, Bool, true, false, List, Option, Some, None, Result, Ok, Err, option_map, nat_le}
use Rattle.std.specs.Prelude.{if◌then◌else◌}
use Rattle.std.specs.List.{position}
use Rattle.std.specs.Option.{option_map_or}
use Rattle.record_rows.specs.declared.rows.Row.{Row}
use Rattle.record_rows.specs.declared.rows.Row.TheVariants as row
use Rattle.record_rows.specs.Rows.{rows_of}
use Rattle.record_faults.specs.Places.{placed_from}
use Rattle.record_faults.specs.Known.{named_in}
use Rattle.record_faults.specs.Faults.{first_fault}
use Rattle.record_faults.specs.declared.places.Place.TheVariants as place
use Rattle.record_faults.specs.declared.kinds.ScriptKind.{ScriptKind}
use Rattle.record_faults.specs.declared.kinds.ScriptKind.TheVariants as kind
use Rattle.record_script.specs.declared.scripts.Script.{Script}
use Rattle.record_script.specs.Networks.{net_of}
use Rattle.record_script.specs.Plans.{plans_of}
use Rattle.record_script.specs.Steps.{steps_of}

-- the rows of a text as they stand
abbrev pub placed : List ℕ → List Row
placed text = placed_from place.Nothing (rows_of text)

abbrev pub is_definitions : Row → Bool
is_definitions row.Definitions = true
is_definitions r = false

-- the line of `$DEFINITIONS`
abbrev pub definitions_line : List Row → Option ℕ
definitions_line rows = option_map (λ i. i + 1) (position is_definitions rows)

-- Definitions cannot be read yet, so their line is NotBuilt; only a fault above them, or of their own line, comes first.
unfoldable pub with_definitions : Option ℕ → Option (ℕ × ScriptKind) → Option (ℕ × ScriptKind)
with_definitions None fault = fault
with_definitions (Some line) None = Some (line, kind.NotBuilt)
with_definitions (Some line) (Some fault) = if nat_le fault.0 line then Some fault else Some (line, kind.NotBuilt)

-- the first fault of a record, by its rows as they stand
abbrev pub fault_of : List Row → Option (ℕ × ScriptKind)
fault_of rows = with_definitions (definitions_line rows) (first_fault (named_in rows) rows)

-- what a record without faults means
abbrev pub script_of : List Row → Script
script_of rows = record { net = net_of rows; plans = plans_of rows; steps = steps_of rows }

-- The record that a text is, or its lowest faulty line and the first kind of its faults.
unfoldable pub read_of : List ℕ → Result Script (ℕ × ScriptKind)
read_of text = option_map_or Err (fault_of (placed text)) (Ok (script_of (placed text)))
