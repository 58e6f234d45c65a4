-- What rows define, and what stands around a row.
use Rattle.std.specs.Prelude.{ℕ, zero, suc, ◌&&◌, Bool, true, false, List, [], ◌∷◌, ◌++◌, Option, Some, None}
use Rattle.std.specs.Prelude.{filter_map, length, find, if◌then◌else◌, count_by, map}
use Rattle.std.specs.List.{list_any}
use Rattle.std.specs.Option.{option_map_or}
use Rattle.std.specs.Str.{bytes_eq}
use Rattle.record_rows.specs.declared.rows.Row.{Row}
use Rattle.record_rows.specs.declared.rows.Row.TheVariants as row
use Rattle.record_rows.specs.declared.rows.StepRow.TheVariants as step
use Rattle.record_rows.specs.declared.rows.CutRow.TheVariants as cut

-- What rows define.

-- a workstation as a row defines it; the master has no hop and is a manager
pub record Station : Type 0 where
  pub name : List ℕ
  pub hop : Option (List ℕ)
  pub manager : Bool

abbrev pub station_of : Row → Option Station
station_of (row.Master n) = Some (record { name = n; hop = None; manager = true })
station_of (row.Station s) = Some (record { name = s.name; hop = Some s.hop; manager = s.manager })
station_of r = None

abbrev pub stations : List Row → List Station
stations rows = filter_map station_of rows

-- the workstation of a name; of two the first counts
abbrev pub station_at : List Station → List ℕ → Option Station
station_at all name = find (λ (s : Station). bytes_eq s.name name) all

abbrev pub is_station : List Station → List ℕ → Bool
is_station all name = list_any (λ (s : Station). bytes_eq s.name name) all

abbrev pub is_manager : List Station → List ℕ → Bool
is_manager all name = option_map_or (λ (s : Station). s.manager) (station_at all name) false

-- the chain of hops from a name on ends at the master, within so many places
abbrev pub reaches : List Station → ℕ → List ℕ → Bool
reaches all zero name = false
reaches all (suc n) name =
    option_map_or (λ (s : Station). option_map_or (reaches all n) s.hop true) (station_at all name) false

abbrev pub ends_at_master : List Station → List ℕ → Bool
ends_at_master all name = reaches all (length all) name

-- the master's name: the first workstation is the master
abbrev pub is_master : List Station → List ℕ → Bool
is_master [] name = false
is_master (s ∷ all) name = bytes_eq s.name name

-- workstation and name
abbrev pub Key : Type 0
Key = List ℕ × List ℕ

abbrev pub key_eq : Key → Key → Bool
key_eq a b = bytes_eq a.0 b.0 && bytes_eq a.1 b.1

abbrev pub has_key : List Key → Key → Bool
has_key keys k = list_any (key_eq k) keys

abbrev pub has_name : List (List ℕ) → List ℕ → Bool
has_name names n = list_any (bytes_eq n) names

abbrev pub station_name : Row → Option (List ℕ)
station_name (row.Master n) = Some n
station_name (row.Station s) = Some s.name
station_name r = None

abbrev pub resource_of : Row → Option Key
resource_of (row.Resource w n t) = Some (w, n)
resource_of r = None

abbrev pub prompt_of : Row → Option (List ℕ)
prompt_of (row.Prompt n t) = Some n
prompt_of r = None

abbrev pub stream_of : Row → Option Key
stream_of (row.Stream s) = Some (s.ws, s.name)
stream_of r = None

abbrev pub job_of : Row → Option (List ℕ)
job_of (row.Job j) = Some j.name
job_of r = None

abbrev pub resources : List Row → List Key
resources rows = filter_map resource_of rows

abbrev pub prompts : List Row → List (List ℕ)
prompts rows = filter_map prompt_of rows

abbrev pub jobs : List Row → List (List ℕ)
jobs rows = filter_map job_of rows

-- Kinds of rows.

abbrev pub is_ws : Row → Bool
is_ws (row.Master n) = true
is_ws (row.Station s) = true
is_ws r = false

abbrev pub is_resource : Row → Bool
is_resource (row.Resource w n t) = true
is_resource r = false

abbrev pub is_prompt : Row → Bool
is_prompt (row.Prompt n t) = true
is_prompt r = false

abbrev pub is_carry : Row → Bool
is_carry (row.CarryForward c) = true
is_carry r = false

abbrev pub is_plan : Row → Bool
is_plan row.Plan = true
is_plan r = false

abbrev pub is_steps : Row → Bool
is_steps row.Steps = true
is_steps r = false

-- a row that begins a stream, or a section
abbrev pub begins_stream : Row → Bool
begins_stream (row.Stream s) = true
begins_stream row.Plan = true
begins_stream row.Steps = true
begins_stream r = false

abbrev pub is_object : Row → Bool
is_object (row.Stream s) = true
is_object (row.Job j) = true
is_object r = false

abbrev pub is_dep : Row → Bool
is_dep (row.Dep d) = true
is_dep r = false

-- it takes a section of a plan
abbrev pub is_next : Row → Bool
is_next (row.Step step.Next) = true
is_next (row.Step (step.CrashIn w kept cut.Next)) = true
is_next r = false

-- the workstation of an object
abbrev pub object_ws : Row → Option (List ℕ)
object_ws (row.Stream s) = Some s.ws
object_ws (row.Job j) = Some j.ws
object_ws r = None

-- the last that is there
abbrev pub last_of : {A : Type 0} → Option A → List A → Option A
last_of found [] = found
last_of found (a ∷ rest) = last_of (Some a) rest

-- the rows behind the last such row, and all where there is none
abbrev pub since_from : (Row → Bool) → List Row → List Row → List Row
since_from p some [] = some
since_from p some (r ∷ rows) = if p r then since_from p [] rows else since_from p (some ++ r ∷ []) rows

abbrev pub since : (Row → Bool) → List Row → List Row
since p rows = since_from p [] rows

-- the rows before the first such row, and all where there is none
abbrev pub until : (Row → Bool) → List Row → List Row
until p [] = []
until p (r ∷ rows) = if p r then [] else r ∷ until p rows

-- What stands above a row, as far as its faults go by it.
pub record Above : Type 0 where
  pub rows : ℕ
  -- the lines of the network: names, and how many
  pub stations : List (List ℕ)
  pub resources : List Key
  pub prompts : List (List ℕ)
  pub ws_lines : ℕ
  pub resource_lines : ℕ
  pub prompt_lines : ℕ
  pub carry : Bool
  -- the streams of this section, and the jobs of this stream
  pub streams : List Key
  pub jobs : List (List ℕ)
  -- the last object's workstation, and how many dependencies it has
  pub ws : Option (List ℕ)
  pub deps : ℕ
  -- the sections of plans, and those that were taken
  pub plans : ℕ
  pub taken : ℕ

unfoldable pub above_of : List Row → Above
above_of rows =
    record {
      rows = length rows;
      stations = filter_map station_name rows;
      resources = resources rows;
      prompts = prompts rows;
      ws_lines = count_by is_ws rows;
      resource_lines = count_by is_resource rows;
      prompt_lines = count_by is_prompt rows;
      carry = list_any is_carry rows;
      streams = filter_map stream_of (since is_plan rows);
      jobs = jobs (since begins_stream rows);
      ws = last_of None (filter_map object_ws rows);
      deps = count_by is_dep (since is_object rows);
      plans = count_by is_plan rows;
      taken = count_by is_next rows;
    }

-- the jobs of the stream in which a row stands, by the rows above it, and by the row with those below it
abbrev pub jobs_around : List Row → List Row → List (List ℕ)
jobs_around above below = jobs (since begins_stream above ++ until begins_stream below)

-- What is known of a record beside its rows: its workstations, the first of which is the master, its resources and its
-- prompts.
pub record Named : Type 0 where
  pub stations : List Station
  pub resources : List Key
  pub prompts : List (List ℕ)

-- a record that has a network
abbrev pub named_in : List Row → Named
named_in rows = record { stations = stations rows; resources = resources rows; prompts = prompts rows }

-- a workstation of whose hop nothing is known
abbrev pub unlinked : List ℕ → Station
unlinked n = record { name = n; hop = None; manager = false }

-- a record whose network is defined elsewhere, the master's name first
abbrev pub named_by : List (List ℕ) → Named
named_by names =
    record { stations = map unlinked names; resources = []; prompts = [] }
