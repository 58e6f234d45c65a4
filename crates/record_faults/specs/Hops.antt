-- Where the hops of workstations stand.
use Rattle.std.specs.Prelude.{ℕ, ◌≡◌, List, Option, length, map, option_and_then, slice_get, unwrap_or}
use Rattle.std.specs.Borrow.{Bor}
use Rattle.std.specs.Map.{lookup}
use Rattle.std.specs.Str.{bytes_eq}
use Rattle.record_faults.specs.Known.{Station, station_at}

-- the workstation of a workstation's hop
abbrev pub hop_of : List Station → Station → Option Station
hop_of all s = option_and_then (station_at all) s.hop

-- the workstations at these places are the hops of all
abbrev pub AreHops : List Station → List ℕ → Type 0
AreHops all hops = map (slice_get all) hops ≡ map (hop_of all) all

-- what an index has at a name
abbrev pub place_in : List (Bor (List ℕ) × ℕ) → List ℕ → Option ℕ
place_in index name = lookup (λ (k : Bor (List ℕ)). bytes_eq name k.now) index

-- the workstation at the place that an index has at a name is the one of that name
abbrev pub ArePlaces : List Station → List (Bor (List ℕ) × ℕ) → Type 0
ArePlaces all index =
    (name : List ℕ) → station_at all name ≡ slice_get all (unwrap_or (place_in index name) (length all))
