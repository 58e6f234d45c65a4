-- What attaching a disk does.
use Rattle.std.specs.Prelude.{◌≡◌, ◌≢◌, ◌⊎◌, ◌+◌, ◌*◌, ◌<◌, ◌≤◌, ℕ, List, [], ◌∷◌, ◌++◌, length, drop, ⊤, Some, None}
use Rattle.std.specs.declared.option.Option.{Option}
use Rattle.outside.specs.Records.{longest_body, longest_file}
use Rattle.outside.specs.Kept.{Bodies}
use Rattle.message_file.specs.Files.{head_of, record_of, records, place_behind, HasRoom, IsFileOf, IsNoRecord, BreaksAt}
use Rattle.message_file.specs.declared.records.Found.{Found}
use Rattle.message_file.specs.declared.records.Found.TheVariants.{Closed, Broken, Next}
use Rattle.message_file.specs.declared.records.Scanned.{Scanned}
use Rattle.message_file.specs.declared.records.Scanned.TheVariants.{Records, BrokenAt}

-- the calls so far read the disk and no more
pub record OnlyReads {D : Type 0} (seen : D → Option (List ℕ)) (may_leave : D → List ℕ → Type 0) (moment : D → ℕ)
    (left_since : D → ℕ → List ℕ → Type 0) (old new : D) : Type 0 where
  pub same : seen new ≡ seen old
  pub left : (file : List ℕ) → may_leave new file → may_leave old file
  pub later : moment old ≤ moment new
  pub since : (t : ℕ) (file : List ℕ) → t ≤ moment old → left_since new t file → left_since old t file ⊎ may_leave old file
  pub still : (file : List ℕ) → may_leave old file → may_leave new file
  pub keeps : (t : ℕ) (file : List ℕ) → t ≤ moment old → left_since old t file → left_since new t file

-- at this place stands a gate that is not open
abbrev pub IsClosedAt : List ℕ → ℕ → Type 0
IsClosedAt file place = (gate : ℕ) × (rest : List ℕ) × (gate ≢ 1) × (drop place file ≡ gate ∷ rest)

-- at this place stands a record, and behind it the next place
abbrev pub IsRecordAt : List ℕ → ℕ → ℕ → Type 0
IsRecordAt file place next =
    (body : List ℕ) × (length body ≤ longest_body) × (next ≡ place + 5 + length body) × (drop place file ≡ record_of body ++ drop next file)

-- what was found at a place
abbrev pub IsFound : Found → ℕ → Option (List ℕ) → Type 0
IsFound found place None = ⊤
IsFound Closed place (Some file) = IsClosedAt file place
IsFound Broken place (Some file) = IsNoRecord place (drop place file)
IsFound (Next next) place (Some file) = IsRecordAt file place next

-- between the head and this place stand so many whole records
pub record AreBefore (owner count place : ℕ) (file : List ℕ) : Type 0 where
  pub bodies : Bodies
  pub room : HasRoom bodies
  pub counted : count ≡ length bodies
  pub behind : place ≡ place_behind bodies
  pub stands : file ≡ head_of owner ++ records bodies ++ drop place file

-- so many records stand between the head and this place, where a gate stands that is not open
pub record EndAt (owner count gate : ℕ) (file : List ℕ) : Type 0 where
  pub before : AreBefore owner count gate file
  pub closed : IsClosedAt file gate

-- what the reading of a file came to
abbrev pub IsScanned : ℕ → Scanned → List ℕ → Type 0
IsScanned owner (Records count gate) file = EndAt owner count gate file
IsScanned owner (BrokenAt place) file = BreaksAt owner file place

abbrev pub IsScannedOf : ℕ → Scanned → Option (List ℕ) → Type 0
IsScannedOf owner scanned None = ⊤
IsScannedOf owner scanned (Some file) = IsScanned owner scanned file

-- how far the places lie
abbrev pub IsWithin : Scanned → ℕ → Type 0
IsWithin (Records count gate) len = (8 + 5 * count ≤ gate) × (gate < len) × (gate < longest_file)
IsWithin (BrokenAt place) len = ⊤

-- both files keep the same bodies
pub record KeepSame (owner : ℕ) (old new : List ℕ) : Type 0 where
  pub bodies : Bodies
  pub before : IsFileOf owner old bodies
  pub after : IsFileOf owner new bodies

abbrev pub KeepSameOf : ℕ → Option (List ℕ) → List ℕ → Type 0
KeepSameOf owner None new = ⊤
KeepSameOf owner (Some old) new = KeepSame owner old new

-- What a stop while an empty file gets its header leaves: the header has eight bytes and its gate one, so no more than
-- nine bytes, whichever they are. No record stands in so few.
abbrev pub LeftBeginning : Option (List ℕ) → List ℕ → Type 0
LeftBeginning None new = ⊤
LeftBeginning (Some old) new = length new ≤ 9

-- what a stop while a disk is attached leaves: a file that might have been left before, or one that keeps the same
-- bodies as the file that is read, or, of an empty file, one of so few bytes that it keeps nothing
abbrev pub LeftAttaching : ℕ → Option (List ℕ) → (List ℕ → Type 0) → List ℕ → Type 0
LeftAttaching owner None left file = ⊤
LeftAttaching owner (Some old) left file = ((old ≡ []) × (length file ≤ 9)) ⊎ (left file ⊎ KeepSame owner old file)

-- the file that is attached keeps what was there, or nothing where there was no file
abbrev pub IsAttached : ℕ → List ℕ → List ℕ → Type 0
IsAttached owner old new = KeepSame owner old new ⊎ ((old ≡ []) × IsFileOf owner new [])
