-- What stands at the front of some bytes of a file, of which a window of a size is seen.
use Rattle.std.specs.Prelude.{◌≡◌, ◌≢◌, ◌+◌, ◌<◌, ◌≤◌, ℕ, List, ◌∷◌, ◌++◌, length, take, drop, Some, None, ⊤}
use Rattle.std.specs.declared.option.Option.{Option}
use Rattle.outside.specs.Records.{longest_body, longest_file}
use Rattle.message_file.specs.Files.{record_of, IsNoRecord}
use Rattle.kept_files.specs.declared.faults.FileFault.{FileFault}
use Rattle.kept_files.specs.declared.faults.FileFault.TheVariants.{Folder, NoMemory, NotThisFile}
use Rattle.kept_files.specs.declared.windows.Found.{Found}
use Rattle.kept_files.specs.declared.windows.Found.TheVariants.{Closed, Broken, Record, Longer}

-- a gate that is not open stands at the front
abbrev pub IsShut : List ℕ → Type 0
IsShut bytes = (gate : ℕ) × (rest : List ℕ) × (gate ≢ 1) × (bytes ≡ gate ∷ rest)

-- a record of this body stands at the front, and has room in the file
pub record BeginsRecord (place : ℕ) (body bytes : List ℕ) : Type 0 where
  pub stands : bytes ≡ record_of body ++ drop (5 + length body) bytes
  pub short : length body ≤ longest_body
  pub room : place + 5 + length body < longest_file

-- what is found in a window of this size on the bytes that stand behind a place
abbrev pub IsFound : ℕ → ℕ → List ℕ → List ℕ → Found → Type 0
IsFound place size window bytes Closed = IsShut bytes
IsFound place size window bytes Broken = IsNoRecord place bytes
IsFound place size window bytes (Record n) =
    (5 + n ≤ length window) × BeginsRecord place (take n (drop 5 window)) bytes × (length (take n (drop 5 window)) ≡ n)
IsFound place size window bytes (Longer whole) = (size < whole) × (whole ≤ 5 + longest_body)

-- a record of this body stands at the front of the bytes that stand behind a place, or a gate that is not open
abbrev pub IsNext : ℕ → Option (List ℕ) → List ℕ → Type 0
IsNext place None bytes = IsShut bytes
IsNext place (Some body) bytes = BeginsRecord place body bytes

-- a body is short, and has room behind a place
abbrev pub IsRoomy : ℕ → Option (List ℕ) → Type 0
IsRoomy place None = ⊤
IsRoomy place (Some body) = (length body ≤ longest_body) × (place + 5 + length body < longest_file)

-- why no record was read at a place, told of the bytes that stand behind it
abbrev pub BreaksHere : ℕ → FileFault → List ℕ → Type 0
BreaksHere place (NotThisFile at_) bytes = (at_ ≡ place) × IsNoRecord place bytes
BreaksHere place Folder bytes = ⊤
BreaksHere place NoMemory bytes = ⊤

-- the first place at which the bytes are not those of a head, or at which they end
pub record Differs (bytes head : List ℕ) (place : ℕ) : Type 0 where
  pub within : place < 8
  pub same : take place bytes ≡ take place head
  pub apart : take (place + 1) bytes ≢ take (place + 1) head

-- how far what is found reaches, of a window of this size that shows so many bytes
abbrev pub IsBounded : ℕ → ℕ → ℕ → Found → Type 0
IsBounded size shown place Closed = ⊤
IsBounded size shown place Broken = ⊤
IsBounded size shown place (Record n) = (5 + n ≤ shown) × (n ≤ longest_body) × (place + 5 + n < longest_file)
IsBounded size shown place (Longer whole) = (size < whole) × (whole ≤ 5 + longest_body)
