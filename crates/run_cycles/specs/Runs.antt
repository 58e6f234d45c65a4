-- The run dates of a stream.
use Rattle.std.specs.Prelude.{ℕ, Bool, true, false, ◌&&◌, not, nat_le, List, slice_get}
use Rattle.std.specs.List.{list_any}
use Rattle.std.specs.Option.{option_map_or}
use Rattle.calendars.specs.Dates.{last_day}
use Rattle.calendars.specs.declared.FreeDays.{FreeDays}
use Rattle.composer_parser.specs.declared.Lined.{Lined}
use Rattle.composer_parser.specs.declared.Defs.{Defs}
use Rattle.composer_parser.specs.declared.OnDef.{OnDef}
use Rattle.composer_parser.specs.declared.ScheduleDef.{ScheduleDef}
use Rattle.workload_defs.specs.Days.{free_of_stream}
use Rattle.run_cycles.specs.Shifts.{gives}

-- the statement is an EXCEPT, or is an ON
abbrev pub is_of : Bool → OnDef → Bool
is_of true on = on.except
is_of false on = not on.except

-- one of the ONs, or of the EXCEPTs, gives the day
abbrev pub any_gives : Defs → FreeDays → List (Lined OnDef) → Bool → ℕ → Bool
any_gives d free ons except day = list_any (λ (o : Lined OnDef). is_of except o.item && gives d free day o.item) ons

-- all dates of the ONs without all dates of the EXCEPTs
abbrev pub runs_of : Defs → ScheduleDef → ℕ → Bool
runs_of d s day =
    any_gives d (free_of_stream d s) s.ons false day && not (any_gives d (free_of_stream d s) s.ons true day)

-- the stream at a place runs on the day, which is one of the calendar
abbrev pub runs : Defs → ℕ → ℕ → Bool
runs d n day =
    nat_le day last_day && option_map_or (λ (s : Lined ScheduleDef). runs_of d s.item day) (slice_get d.schedules n) false
