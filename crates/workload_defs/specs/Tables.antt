-- What is kept of checked definitions.
use Rattle.std.specs.Prelude.{◌≡◌, ◌==◌, ℕ, ◌<◌, ◌^◌, List, length, map, slice_get, slice_index, Option, Some}
use Rattle.std.specs.Borrow.{Bor}
use Rattle.std.specs.Map.{lookup}
use Rattle.std.specs.Str.{bytes_eq}
use Rattle.composer_parser.specs.declared.Lined.{Lined}
use Rattle.composer_parser.specs.declared.Defs.{Defs}
use Rattle.composer_parser.specs.declared.CalendarDef.{CalendarDef}
use Rattle.composer_parser.specs.declared.CpuDef.{CpuDef}
use Rattle.definition_names.specs.Names.{first_of}
use Rattle.definition_faults.specs.Faults.{IsFaultless}
use Rattle.workload_defs.specs.Stations.{stations, number_among}
use Rattle.workload_defs.specs.Nets.{net_of, peers_of}
use Rattle.calendars.specs.declared.FreeDays.{FreeDays}
use Rattle.workload_defs.specs.Days.{ascending_days, free_of, free_of_kind, key_of}
use Rattle.workload_defs.specs.declared.days.FreeKind.{FreeKind}
use Rattle.workload_defs.specs.declared.days.FreeTable.{FreeTable}
use Rattle.workload_defs.specs.declared.days.DayTables.{DayTables}
use Rattle.workload_defs.specs.declared.hosts.Hosts.{Hosts}

-- workstations behind references
abbrev pub cpus_seen : List (Bor CpuDef) → List CpuDef
cpus_seen cpus = map (λ (c : Bor CpuDef). c.now) cpus

abbrev pub name_of : Bor CpuDef → List ℕ
name_of c = c.now.name

-- a table has the number of each name
abbrev pub number_in : List (List ℕ × ℕ) → List ℕ → Option ℕ
number_in table name = lookup (bytes_eq name) table

abbrev pub IsStationTable : List (List ℕ × ℕ) → List CpuDef → Type 0
IsStationTable table cpus = (name : List ℕ) → number_in table name ≡ number_among cpus name

abbrev pub IsCalendarTable : List (List ℕ × ℕ) → List (Lined CalendarDef) → Type 0
IsCalendarTable table calendars =
    (name : List ℕ) → number_in table name ≡ first_of (map (λ (c : Lined CalendarDef). c.item.name) calendars) name

-- what an index of numbers has at one
abbrev pub number_at : List (ℕ × ℕ) → ℕ → Option ℕ
number_at index key = lookup (λ other. key == other) index

-- at each place of a stream stands that of its free days
pub record AreFreeDays (d : Defs) (table : FreeTable) : Type 0 where
  pub each : length table.places.items ≡ length d.schedules
  pub days : (n : ℕ) → n < length d.schedules
      → slice_get table.kinds.items (slice_index table.places.items n) ≡ free_of d n

-- the free days that stand in a list stand there still
abbrev pub StaysIn : List FreeDays → List FreeDays → Type 0
StaysIn old new = (place : ℕ) (free : FreeDays) → slice_get old place ≡ Some free → slice_get new place ≡ Some free

-- an index has the places of kinds of free days
abbrev pub AreMade : Defs → List FreeDays → List (ℕ × ℕ) → Type 0
AreMade d kinds made =
    (kind : FreeKind) (place : ℕ) → number_at made (key_of kind) ≡ Some place
    → slice_get kinds place ≡ Some (free_of_kind d kind)

-- the network of definitions, with the addresses and the numbers of its workstations
pub record AreHosts (d : Defs) (hosts : Hosts) : Type 0 where
  pub net_ : hosts.net ≡ net_of d
  pub peers_ : hosts.peers ≡ peers_of d
  pub numbers_ : IsStationTable hosts.numbers.entries (stations d)

-- the calendars and the free days of definitions
pub record AreDayTables (d : Defs) (days : DayTables) : Type 0 where
  pub calendars_ : IsCalendarTable days.calendars.entries d.calendars
  pub sorted_ : days.sorted.items ≡ map ascending_days d.calendars
  pub free_ : AreFreeDays d days.free

-- definitions without a fault, with what they give
pub record IsWorkload (d : Defs) (hosts : Hosts) (days : DayTables) : Type 0 where
  pub faultless : IsFaultless d
  pub few : length d.schedules < 2 ^ 32
  pub hosts_ : AreHosts d hosts
  pub days_ : AreDayTables d days
