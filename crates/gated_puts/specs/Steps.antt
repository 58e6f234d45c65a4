-- What the steps of keeping one record do to a file.
use Rattle.std.specs.Prelude.{◌≡◌, ◌⊎◌, ◌+◌, ◌<◌, ℕ, List, ◌∷◌, ◌++◌, length, take, ⊤, Some, None}
use Rattle.std.specs.declared.option.Option.{Option}
use Rattle.outside.specs.Files.{Only}

-- the file ends with the byte at this place, and is on the disk
pub record EndsAt (place : ℕ) (file : List ℕ) (may_leave : List ℕ → Type 0) : Type 0 where
  pub end : length file ≡ place + 1
  pub durable : Only file may_leave

-- the byte at this place is 1, and the piece stands behind it
abbrev pub Opened : ℕ → List ℕ → List ℕ → List ℕ → Type 0
Opened place piece old new = new ≡ take place old ++ 1 ∷ piece

-- the file is as it was with anything behind it, or the piece stands behind any byte at this place
abbrev pub IsStaged : ℕ → List ℕ → List ℕ → List ℕ → Type 0
IsStaged place piece old new = (take (place + 1) new ≡ old) ⊎ ((gate : ℕ) × (new ≡ take place old ++ gate ∷ piece))

-- the same, where it is told what the file was
abbrev pub StagedOf : ℕ → List ℕ → Option (List ℕ) → List ℕ → Type 0
StagedOf place piece None new = ⊤
StagedOf place piece (Some old) new = IsStaged place piece old new

-- the piece stands behind all that was there
abbrev pub Behind : List ℕ → List ℕ → List ℕ → Type 0
Behind piece old new = new ≡ old ++ piece

-- the file is as it was, with anything behind it
abbrev pub Stands : List ℕ → List ℕ → Type 0
Stands old new = take (length old) new ≡ old

abbrev pub StandsOf : Option (List ℕ) → List ℕ → Type 0
StandsOf None new = ⊤
StandsOf (Some old) new = Stands old new

-- the piece stands behind the byte at this place, at the file's end, and is on the disk
pub record HasPiece (place : ℕ) (piece file : List ℕ) (may_leave : List ℕ → Type 0) : Type 0 where
  pub gate : ℕ
  pub stands : file ≡ take place file ++ gate ∷ piece
  pub within : place < length file
  pub durable : Only file may_leave

-- the byte at this place is any
abbrev pub IsGated : ℕ → List ℕ → List ℕ → List ℕ → Type 0
IsGated place piece old new = (gate : ℕ) × (new ≡ take place old ++ gate ∷ piece)

abbrev pub GatedOf : ℕ → List ℕ → Option (List ℕ) → List ℕ → Type 0
GatedOf place piece None new = ⊤
GatedOf place piece (Some old) new = IsGated place piece old new
