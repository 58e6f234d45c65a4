-- What a file of records keeps, and which files are none.
use Rattle.std.specs.Prelude.{◌≡◌, ◌≢◌, ◌⊎◌, ◌+◌, ◌<◌, ◌≤◌, ℕ, zero, suc, ◌==◌, ◌&&◌, nat_le, if◌then◌else◌, List, [], ◌∷◌, ◌++◌, length, take, drop, flat_map, Some, None, ⊤}
use Rattle.std.specs.declared.option.Option.{Option}
use Rattle.std.specs.Option.{option_map_or}
use Rattle.std.specs.List.{AllByRecursion}
use Rattle.std.specs.Int.{w32, from_be_bytes}
use Rattle.model.specs.Fields.{u16_bytes, u32_bytes}
use Rattle.outside.specs.Records.{longest_body, longest_file}
use Rattle.outside.specs.Kept.{Bodies, with_body}
use Rattle.outside.specs.Files.{Only}

-- what stands before the records: a mark, the version, and the workstation that owns the file
abbrev pub head_of : ℕ → List ℕ
head_of owner = 84 ∷ 87 ∷ 83 ∷ 77 ∷ 0 ∷ 1 ∷ u16_bytes owner

-- an open gate, the length of the body, and the body
abbrev pub record_of : List ℕ → List ℕ
record_of body = 1 ∷ u32_bytes (length body) ++ body

abbrev pub records : Bodies → List ℕ
records bodies = flat_map record_of bodies

-- the place behind these records
abbrev pub place_behind : Bodies → ℕ
place_behind bodies = 8 + length (records bodies)

-- no body is longer than it may be, and neither are all together
pub record HasRoom (bodies : Bodies) : Type 0 where
  pub each : AllByRecursion (λ (body : List ℕ). length body ≤ longest_body) bodies
  pub all : place_behind bodies < longest_file

-- The file keeps these bodies: behind their records stands a gate that is not open, and behind it anything.
pub record IsFileOf (owner : ℕ) (file : List ℕ) (bodies : Bodies) : Type 0 where
  pub gate : ℕ
  pub rest : List ℕ
  pub closed : gate ≢ 1
  pub stands : file ≡ head_of owner ++ records bodies ++ gate ∷ rest
  pub room : HasRoom bodies

-- the body of the record at the front, and what stands behind it
abbrev pub first_record : List ℕ → Option (List ℕ × List ℕ)
first_record (gate ∷ a ∷ b ∷ c ∷ d ∷ rest) =
    let n = from_be_bytes w32 (a ∷ b ∷ c ∷ d ∷ []) in
    if (gate == 1) && nat_le n (length rest) then Some (take n rest, drop n rest) else None
first_record _ = None

-- the bodies of the records at the front, of so many at most
abbrev pub first_bodies : ℕ → List ℕ → Bodies
first_bodies zero bytes = []
first_bodies (suc n) bytes = option_map_or (λ (r : List ℕ × List ℕ). r.0 ∷ first_bodies n r.1) (first_record bytes) []

-- the bodies of all records that stand whole behind the head, up to the first gate that is not open
unfoldable pub kept_of : List ℕ → Bodies
kept_of file = first_bodies (length file) (drop 8 file)

-- the first byte that differs from the head's or is missing
pub record DiffersAt (owner : ℕ) (file : List ℕ) (place : ℕ) : Type 0 where
  pub within : place < 8
  pub same : take place file ≡ take place (head_of owner)
  pub differs : take (place + 1) file ≢ take (place + 1) (head_of owner)

-- behind a record that counts, of these lengths, there is none: its length is missing or too great, or its body is
-- missing, or the next gate would stand too far behind
abbrev pub IsNoRecord : ℕ → List ℕ → Type 0
IsNoRecord place [] = ⊤
IsNoRecord place (gate ∷ rest) =
    (gate ≡ 1) × ((length rest < 4)
    ⊎ ((longest_body < from_be_bytes w32 (take 4 rest))
    ⊎ ((length (drop 4 rest) < from_be_bytes w32 (take 4 rest))
    ⊎ (longest_file ≤ place + 5 + from_be_bytes w32 (take 4 rest)))))

-- at this place, behind whole records, stands neither a record nor a gate that is not open
pub record BreaksAt (owner : ℕ) (file : List ℕ) (place : ℕ) : Type 0 where
  pub bodies : Bodies
  pub room : HasRoom bodies
  pub behind : place ≡ place_behind bodies
  pub stands : file ≡ head_of owner ++ records bodies ++ drop place file
  pub broken : IsNoRecord place (drop place file)

-- the file keeps so many bodies at least
pub record KeepsAtLeast (owner count : ℕ) (file : List ℕ) : Type 0 where
  pub bodies : Bodies
  pub is_file : IsFileOf owner file bodies
  pub enough : count ≤ length bodies

-- the file keeps so many bodies, ends with the gate behind them, and is on the disk
pub record IsAtRest (owner count gate : ℕ) (file : List ℕ) (may_leave : List ℕ → Type 0) : Type 0 where
  pub bodies : Bodies
  pub is_file : IsFileOf owner file bodies
  pub counted : count ≡ length bodies
  pub gate_at : gate ≡ place_behind bodies
  pub ends : length file ≡ gate + 1
  pub durable : Only file may_leave

-- the file keeps these bodies, or these and one more
abbrev pub KeepsOrWith : ℕ → Bodies → List ℕ → List ℕ → Type 0
KeepsOrWith owner bodies body file = IsFileOf owner file bodies ⊎ IsFileOf owner file (with_body body bodies)
