-- The days of calendars, and the free days of streams.
use Rattle.std.specs.Prelude.{◌≡◌, ℕ, ◌+◌, ◌*◌, Bool, true, not, List, [], slice_get, option_map, option_and_then, unwrap_or, codes}
use Rattle.std.specs.Prelude.{Option, if◌then◌else◌}
use Rattle.std.specs.List.{position_from}
use Rattle.std.specs.Option.{option_map_or}
use Rattle.std.specs.Str.{bytes_eq}
use Rattle.calendars.specs.declared.FreeDays.{FreeDays}
use Rattle.composer_parser.specs.declared.Lined.{Lined}
use Rattle.composer_parser.specs.declared.Defs.{Defs}
use Rattle.composer_parser.specs.declared.CalendarDef.{CalendarDef}
use Rattle.composer_parser.specs.declared.FreeDef.{FreeDef}
use Rattle.composer_parser.specs.declared.ScheduleDef.{ScheduleDef}
use Rattle.model.specs.Words.{ascending}
use Rattle.definition_names.specs.Names.{calendar_at}
use Rattle.workload_defs.specs.declared.days.FreeKind.{FreeKind}

-- the days of the calendar at a place, and none where there is no calendar
abbrev pub days_at : Defs → Option ℕ → List ℕ
days_at d place =
    option_map_or (λ (c : Lined CalendarDef). c.item.days) (option_and_then (slice_get d.calendars) place) []

-- the days of the calendar of a name; none where it is not defined
abbrev pub days_of : Defs → List ℕ → List ℕ
days_of d name = days_at d (calendar_at d name)

-- the days of a calendar in ascending order, and none where there is no calendar
abbrev pub ascending_days : Lined CalendarDef → List ℕ
ascending_days c = ascending c.item.days

abbrev pub days_in : Option (List ℕ) → List ℕ
days_in days = unwrap_or days []

-- the calendar of free days: that of FREEDAYS, and HOLIDAYS where the stream has none
abbrev pub free_calendar : ScheduleDef → List ℕ
free_calendar s = option_map_or (λ (f : FreeDef). f.name) s.free (codes "HOLIDAYS")

-- Saturdays and Sundays are free unless FREEDAYS takes them out
abbrev pub has_free_sa : ScheduleDef → Bool
has_free_sa s = option_map_or (λ (f : FreeDef). not f.minus_sa) s.free true

abbrev pub has_free_su : ScheduleDef → Bool
has_free_su s = option_map_or (λ (f : FreeDef). not f.minus_su) s.free true

-- the free days of a stream
abbrev pub free_of_stream : Defs → ScheduleDef → FreeDays
free_of_stream d s = record {
  dates = ascending (days_of d (free_calendar s));
  sa = has_free_sa s;
  su = has_free_su s;
}

abbrev pub free_of : Defs → ℕ → Option FreeDays
free_of d n = option_map (λ (s : Lined ScheduleDef). free_of_stream d s.item) (slice_get d.schedules n)

-- the place of the calendar HOLIDAYS
abbrev pub holidays : List (Lined CalendarDef) → Option ℕ
holidays calendars = position_from (λ (c : Lined CalendarDef). bytes_eq c.item.name (codes "HOLIDAYS")) 0 calendars

-- which free days a stream has, and a number for each kind
pub record IsKindOf (d : Defs) (s : ScheduleDef) (kind : FreeKind) : Type 0 where
  pub calendar_ : kind.calendar ≡ calendar_at d (free_calendar s)
  pub sa_ : kind.sa ≡ has_free_sa s
  pub su_ : kind.su ≡ has_free_su s

abbrev pub one_if : Bool → ℕ
one_if b = if b then 1 else 0

abbrev pub key_of : FreeKind → ℕ
key_of kind = option_map_or (λ place. place + 1) kind.calendar 0 * 4 + (2 * one_if kind.sa + one_if kind.su)

abbrev pub free_of_kind : Defs → FreeKind → FreeDays
free_of_kind d kind = record { dates = ascending (days_at d kind.calendar); sa = kind.sa; su = kind.su }
