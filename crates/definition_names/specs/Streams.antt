-- What the names of streams and of their entries stand for: the first of its workstation and name, and the first of its
-- name in a stream.
use Rattle.std.specs.Prelude.{ℕ, Bool, true, false, ◌&&◌, List, map, slice_get, option_and_then, Option, Some, None}
use Rattle.std.specs.List.{position_from}
use Rattle.std.specs.Option.{option_or}
use Rattle.std.specs.Str.{bytes_eq}
use Rattle.composer_parser.specs.declared.Lined.{Lined}
use Rattle.composer_parser.specs.declared.Defs.{Defs}
use Rattle.composer_parser.specs.declared.EntryDef.{EntryDef}
use Rattle.composer_parser.specs.declared.ScheduleDef.{ScheduleDef}
use Rattle.definition_names.specs.Names.{first_of}
use Rattle.definition_names.specs.Stations.{master_of}

-- one workstation, or both the nameless one
abbrev pub is_one_ws : Option (List ℕ) → Option (List ℕ) → Bool
is_one_ws None None = true
is_one_ws (Some a) (Some b) = bytes_eq a b
is_one_ws None (Some b) = false
is_one_ws (Some a) None = false

-- the stream has this workstation and name, where the master is this one
abbrev pub is_stream : Option (List ℕ) → Option (List ℕ) → List ℕ → Lined ScheduleDef → Bool
is_stream master ws name s = is_one_ws ws (option_or s.item.ws master) && bytes_eq name s.item.name

abbrev pub stream_among : List (Lined ScheduleDef) → Option (List ℕ) → Option (List ℕ) → List ℕ → Option ℕ
stream_among schedules master ws name = position_from (is_stream master ws name) 0 schedules

-- the stream of a workstation and name
abbrev pub stream_at : Defs → Option (List ℕ) → List ℕ → Option ℕ
stream_at d ws name = stream_among d.schedules (master_of d) ws name

-- the entry of a name in a stream
abbrev pub entry_at : ScheduleDef → List ℕ → Option ℕ
entry_at s name = first_of (map (λ (e : Lined EntryDef). e.item.name) s.entries) name

abbrev pub entry_among : List (Lined ScheduleDef) → ℕ → List ℕ → Option ℕ
entry_among schedules n name =
    option_and_then (λ (s : Lined ScheduleDef). entry_at s.item name) (slice_get schedules n)

-- and in the stream at a place
abbrev pub entry_of : Defs → ℕ → List ℕ → Option ℕ
entry_of d n name = entry_among d.schedules n name
