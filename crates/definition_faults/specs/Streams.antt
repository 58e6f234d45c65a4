-- The faults of streams.
use Rattle.std.specs.Prelude.{ℕ, Bool, false, ◌||◌, List, [], ◌∷◌, ◌++◌, flat_map}
use Rattle.std.specs.List.{enumerate_from}
use Rattle.std.specs.Option.{option_map_or}
use Rattle.composer_parser.specs.declared.Lined.{Lined}
use Rattle.composer_parser.specs.declared.Defs.{Defs}
use Rattle.composer_parser.specs.declared.FreeDef.{FreeDef}
use Rattle.composer_parser.specs.declared.ScheduleDef.{ScheduleDef}
use Rattle.definition_names.specs.Stations.{ws_of_stream}
use Rattle.definition_names.specs.Streams.{stream_at}
use Rattle.definition_faults.specs.Orders.{faults_at}
use Rattle.definition_faults.specs.Items.{is_later}
use Rattle.definition_faults.specs.Unknown.{is_unknown_ws, is_unknown_calendar}
use Rattle.definition_faults.specs.Ons.{on_faults}
use Rattle.definition_faults.specs.Clauses.{clause_faults}
use Rattle.definition_faults.specs.Entries.{entry_faults}
use Rattle.definition_faults.specs.declared.kinds.Kind.{Kind}
use Rattle.definition_faults.specs.declared.kinds.Kind.TheVariants.{Duplicate, UnknownName}
use Rattle.definition_faults.specs.declared.kinds.Fault.{Fault}

abbrev pub lacks_free_calendar : Defs → ScheduleDef → Bool
lacks_free_calendar d s = option_map_or (λ (f : FreeDef). is_unknown_calendar d f.name) s.free false

-- a stream: its name on its workstation, that workstation, its calendar of free days
abbrev pub title_rows : Defs → ℕ → ScheduleDef → List (Bool × Kind)
title_rows d n s =
    (is_later (stream_at d (ws_of_stream d s) s.name) n, Duplicate)
    ∷ (is_unknown_ws d s.ws || lacks_free_calendar d s, UnknownName)
    ∷ []

-- with its days, its clauses and its entries
unfoldable pub stream_faults : Defs → ℕ → Lined ScheduleDef → List Fault
stream_faults d n s =
    faults_at s.line (title_rows d n s.item)
    ++ on_faults d s.item.ons
    ++ clause_faults d n false (ws_of_stream d s.item) s.item.clauses
    ++ entry_faults d n s.item

unfoldable pub all_stream_faults : Defs → List Fault
all_stream_faults d =
    flat_map (λ (p : ℕ × Lined ScheduleDef). stream_faults d p.0 p.1) (enumerate_from 0 d.schedules)
