-- What the rows of a record name, in the order of the numbers.
use Rattle.std.specs.Prelude.{ℕ, ◌+◌, List, [], filter_map, unwrap_or}
use Rattle.std.specs.List.{position}
use Rattle.std.specs.Str.{bytes_eq}
use Rattle.record_rows.specs.declared.rows.Row.{Row}
use Rattle.record_rows.specs.declared.rows.Ranged.{Ranged}
use Rattle.record_rows.specs.declared.rows.Ranged.TheVariants.{Within, OutOfRange}
use Rattle.record_faults.specs.Known.{Key, key_eq, station_name, resource_of, prompt_of}

-- the workstations, the resources and the prompts
pub record Numbered : Type 0 where
  pub stations : List (List ℕ)
  pub resources : List Key
  pub prompts : List (List ℕ)

abbrev pub numbered : List Row → Numbered
numbered rows =
    record {
      stations = filter_map station_name rows;
      resources = filter_map resource_of rows;
      prompts = filter_map prompt_of rows;
    }

-- workstations that are defined elsewhere, whose steps name no resources and no prompts
abbrev pub numbered_by : List (List ℕ) → Numbered
numbered_by names = record { stations = names; resources = []; prompts = [] }

-- The place of the first that is this one. In a record without faults each name that is asked for is there, and else
-- nothing is said by the 0.
abbrev pub place_of : List (List ℕ) → List ℕ → ℕ
place_of names name = unwrap_or (position (bytes_eq name) names) 0

abbrev pub place_of_key : List Key → Key → ℕ
place_of_key keys k = unwrap_or (position (key_eq k) keys) 0

-- workstations are numbered from 0, the master first; resources and prompts from 1
abbrev pub ws_no : Numbered → List ℕ → ℕ
ws_no n name = place_of n.stations name

abbrev pub resource_no : Numbered → Key → ℕ
resource_no n k = place_of_key n.resources k + 1

abbrev pub prompt_no : Numbered → List ℕ → ℕ
prompt_no n name = place_of n.prompts name + 1

-- A number or a text of a line. In a record without faults each is within its range, and else nothing is said by what
-- stands in its place.
abbrev pub within : {A : Type 0} → A → Ranged A → A
within other (Within a) = a
within other OutOfRange = other
