-- What a FOLLOWS means.
use Rattle.std.specs.Prelude.{ℕ, Bool, true, false, ◌&&◌, List, slice_get, is_none, option_map, option_and_then}
use Rattle.std.specs.Prelude.{Option, Some, None, if◌then◌else◌}
use Rattle.std.specs.Option.{option_or, option_map_or}
use Rattle.composer_parser.specs.declared.Lined.{Lined}
use Rattle.composer_parser.specs.declared.Defs.{Defs}
use Rattle.composer_parser.specs.declared.Pred.{Pred}
use Rattle.composer_parser.specs.declared.PredPart.{PredPart}
use Rattle.composer_parser.specs.declared.PredPart.TheVariants as part
use Rattle.composer_parser.specs.declared.ScheduleDef.{ScheduleDef}
use Rattle.definition_names.specs.Stations.{master_of, ws_of_stream}
use Rattle.definition_names.specs.Streams.{stream_at, entry_of}
use Rattle.definition_names.specs.declared.targets.Target.{Target}
use Rattle.definition_names.specs.declared.targets.Target.TheVariants.{Stream, Job}

-- no part of a stream is named
abbrev pub is_plain : PredPart → Bool
is_plain part.Plain = true
is_plain part.All = false
is_plain (part.Job name) = false

-- one name alone
abbrev pub is_bare : Pred → Bool
is_bare p = is_none p.ws && is_plain p.part

-- the workstation that is written, or that of the stream in which it stands
abbrev pub ws_of_pred : Defs → ℕ → Pred → Option (List ℕ)
ws_of_pred d n p =
    option_or p.ws
    (option_map_or (λ (s : Lined ScheduleDef). ws_of_stream d s.item) (slice_get d.schedules n) (master_of d))

-- the named part of a stream: the whole stream, or its job of that name
abbrev pub part_at : Defs → PredPart → ℕ → Option Target
part_at d part.Plain n = Some (Stream n)
part_at d part.All n = Some (Stream n)
part_at d (part.Job name) n = option_map (Job n) (entry_of d n name)

-- the named part of the stream of that workstation and name
abbrev pub of_stream : Defs → ℕ → Pred → Option Target
of_stream d n p = option_and_then (part_at d p.part) (stream_at d (ws_of_pred d n p) p.name)

-- in an entry one name alone is a job of the same stream, if there is one
abbrev pub of_own : Defs → ℕ → Bool → Pred → Option Target
of_own d n inside p = if inside && is_bare p then option_map (Job n) (entry_of d n p.name) else None

-- what a FOLLOWS stands for in the stream at a place, in one of its entries or in its header
abbrev pub target_of : Defs → ℕ → Bool → Pred → Option Target
target_of d n inside p = option_or (of_own d n inside p) (of_stream d n p)
