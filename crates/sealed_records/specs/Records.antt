-- The records of one direction of a connection under a key.
use Rattle.std.specs.Prelude.{◌≡◌, ◌≢◌, ℕ, ◌+◌, ◌≤◌, ◌<◌, ◌⊎◌, ◌^◌, List, [], ◌∷◌, ◌++◌, length, take, drop, slice_get, Some}
use Rattle.std.specs.Int.{w16, w64, to_be_bytes, from_be_bytes}
use Rattle.keyed_hash.specs.Hmac.{hmac_sha256}
use Rattle.sealed_records.specs.declared.seals.Taken.{Taken}
use Rattle.sealed_records.specs.declared.seals.Taken.TheVariants.{Record, Nothing, Wrong, NoMemory}

-- how far a direction has come: the key of its codes, and the number of the next record
pub record Direction : Type 0 where
  pub key : List ℕ
  pub number : ℕ

-- the direction without records
abbrev pub begun : List ℕ → Direction
begun key = record { key = key; number = 0 }

-- the direction behind one record more
abbrev pub next : Direction → Direction
next d = record { key = d.key; number = d.number + 1 }

-- the direction behind this many records
abbrev pub behind : ℕ → Direction → Direction
behind count d = record { key = d.key; number = d.number + count }

-- The number of the next record is the last that eight bytes tell. No record goes with it.
abbrev pub IsSpent : Direction → Type 0
IsSpent d = 2 ^ 64 ≤ d.number + 1

-- the code of the next record: over its number in eight bytes, and over what it tells, its length and its bytes
abbrev pub code_of_record : Direction → List ℕ → List ℕ
code_of_record d told = hmac_sha256 d.key (to_be_bytes w64 d.number ++ told)

-- the next record with these bytes: their length in two bytes, the bytes, the code
abbrev pub told_by : List ℕ → List ℕ
told_by bytes = to_be_bytes w16 (length bytes) ++ bytes

abbrev pub record_of : Direction → List ℕ → List ℕ
record_of d bytes = told_by bytes ++ code_of_record d (told_by bytes)

-- these records, one behind the other
abbrev pub wire : Direction → List (List ℕ) → List ℕ
wire d [] = []
wire d (bytes ∷ more) = record_of d bytes ++ wire (next d) more

-- none has more bytes than a record may have
abbrev pub AreShort : List (List ℕ) → Type 0
AreShort [] = Unit {0}
AreShort (bytes ∷ more) = (length bytes ≤ 16384) × AreShort more

-- these bytes are too many for a record, or the direction is spent
abbrev pub IsTooMany : Direction → List ℕ → Type 0
IsTooMany d bytes = (16384 < length bytes) ⊎ IsSpent d

-- What has come begins with a record that is accepted as the next one, with these bytes, and this is left: the head tells
-- how many bytes there are, and the code is that of the next record.
pub record IsAccepted (d : Direction) (come bytes rest : List ℕ) : Type 0 where
  pub head : List ℕ
  pub code : List ℕ
  pub two : length head ≡ 2
  pub told : length bytes ≡ from_be_bytes w16 head
  pub short : length bytes ≤ 16384
  pub size : length code ≡ 32
  pub own : code ≡ code_of_record d (head ++ bytes)
  pub whole : come ≡ ((head ++ bytes) ++ code) ++ rest

-- these records are accepted in turn, and this is left
abbrev pub Accepts : Direction → List ℕ → List (List ℕ) → List ℕ → Type 0
Accepts d come [] rest = come ≡ rest
Accepts d come (bytes ∷ more) rest = (between : List ℕ) × IsAccepted d come bytes between × Accepts (next d) between more rest

-- Wherever records end that were accepted in turn, the record that is accepted with the next number is the one that the other
-- end put with it.
abbrev pub AreMade : Direction → List (List ℕ) → List ℕ → Type 0
AreMade from put come = (before : List (List ℕ)) (here : List ℕ) → Accepts from come before here
    → (bytes rest : List ℕ) → IsAccepted (behind (length before) from) here bytes rest → slice_get put (length before) ≡ Some bytes

-- At any place whatever, what is accepted with a number is the record that the other end put with it.
abbrev pub AreMadeAnywhere : Direction → List (List ℕ) → List ℕ → Type 0
AreMadeAnywhere from put come = (count : ℕ) (before here : List ℕ) → come ≡ before ++ here
    → (bytes rest : List ℕ) → IsAccepted (behind count from) here bytes rest → slice_get put count ≡ Some bytes

-- how many bytes of the next record the first two of these tell
abbrev pub told_of : List ℕ → ℕ
told_of come = from_be_bytes w16 (take 2 come)

-- the next record is there whole, and may be taken
abbrev pub IsNext : Direction → List ℕ → List ℕ → List ℕ → Type 0
IsNext d come bytes rest = IsAccepted d come bytes rest × (d.number + 1 < 2 ^ 64)

-- the next record is not there whole, and what is there of it is not wrong
abbrev pub IsUnfinished : Direction → List ℕ → Type 0
IsUnfinished d come =
    (length come < 2) ⊎ ((told_of come ≤ 16384) × (d.number + 1 < 2 ^ 64) × (length come < 34 + told_of come))

-- the next record is there whole with another code
abbrev pub HasOtherCode : Direction → List ℕ → Type 0
HasOtherCode d come = (34 + told_of come ≤ length come)
    × (code_of_record d (take (2 + told_of come) come) ≢ take 32 (drop (2 + told_of come) come))

-- The head of the next record is there, and it is too long, or the direction is spent, or the code is another.
abbrev pub IsWrong : Direction → List ℕ → Type 0
IsWrong d come = (2 ≤ length come) × ((16384 < told_of come) ⊎ (IsSpent d ⊎ HasOtherCode d come))

-- what one call takes of what has come, with what was taken before and is after
abbrev pub Takes : Direction → List ℕ → List ℕ → Taken → Direction → List ℕ → List ℕ → Type 0
Takes d come taken Record d' come' taken' =
    (bytes : List ℕ) × IsNext d come bytes come' × (taken' ≡ taken ++ bytes) × (d' ≡ next d)
Takes d come taken Nothing d' come' taken' = IsUnfinished d come × (d' ≡ d) × (come' ≡ come) × (taken' ≡ taken)
Takes d come taken Wrong d' come' taken' = IsWrong d come × (d' ≡ d) × (come' ≡ come) × (taken' ≡ taken)
Takes d come taken NoMemory d' come' taken' =
    ((bytes rest : List ℕ) × IsNext d come bytes rest) × (d' ≡ d) × (come' ≡ come) × (taken' ≡ taken)
