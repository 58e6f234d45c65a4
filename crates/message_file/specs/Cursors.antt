-- Where a record with a number stands.
use Rattle.std.specs.Prelude.{◌≡◌, ◌+◌, ◌≤◌, ℕ, List, length, take, slice_get, ⊤, Some, None}
use Rattle.std.specs.declared.option.Option.{Option}
use Rattle.message_file.specs.Files.{kept_of, place_behind, IsFileOf}
use Rattle.outside.specs.Kept.{Bodies}

-- the file keeps so many bodies, and ends with the gate behind them
pub record IsHeld (owner count gate : ℕ) (file : List ℕ) : Type 0 where
  pub bodies : Bodies
  pub is_file : IsFileOf owner file bodies
  pub counted : count ≡ length bodies
  pub gate_at : gate ≡ place_behind bodies
  pub ends : length file ≡ gate + 1

-- the place of the record with a number was found; where nothing is told it may be missing
abbrev pub IsPlaceOf : Option (List ℕ) → ℕ → Option ℕ → Type 0
IsPlaceOf None number place = ⊤
IsPlaceOf (Some file) number place = place ≡ Some (place_behind (take number (kept_of file)))

-- a place lies between two
abbrev pub LiesIn : ℕ → ℕ → Option ℕ → Type 0
LiesIn low high None = ⊤
LiesIn low high (Some place) = (low ≤ place) × (place ≤ high)

-- the body with a number, where the file is told
abbrev pub IsBodyOf : Option (List ℕ) → ℕ → List ℕ → Type 0
IsBodyOf None number body = ⊤
IsBodyOf (Some file) number body = slice_get (kept_of file) number ≡ Some body
