-- What stands in room that was taken at once: values, and pieces one behind the other, each with a tag.
use Rattle.std.specs.Prelude.{◌≡◌, ◌+◌, ◌-◌, ◌≤◌, ◌&&◌, nat_lt, nat_le, ℕ, zero, suc, Bool, true, false, List, [], ◌∷◌, ◌++◌, length, map, take, drop, if◌then◌else◌, Some, None}
use Rattle.std.specs.declared.option.Option.{Option}
use Rattle.outside_mem.specs.declared.rooms.Row.{Row}

-- the pieces with their tags, how many bytes they have together, for how many pieces and bytes there is room, and whether
-- all that came were kept
pub record Stored (T : Type 0) : Type 0 where
  pub rows : List (T × List ℕ)
  pub used : ℕ
  pub room : ℕ
  pub whole : Bool

-- nothing came yet
abbrev pub nothing_in : {T : Type 0} → ℕ → Stored T
nothing_in room = record { rows = []; used = 0; room = room; whole = true }

-- one more piece at the end
abbrev pub with_row : {T : Type 0} → T → List ℕ → Stored T → Stored T
with_row tag piece stored = record {
  rows = stored.rows ++ (tag, piece) ∷ [];
  used = stored.used + length piece;
  room = stored.room;
  whole = stored.whole;
}

-- one came for which there is no room
abbrev pub with_none : {T : Type 0} → Stored T → Stored T
with_none stored = record { rows = stored.rows; used = stored.used; room = stored.room; whole = false }

-- whether there is room for one more piece of so many bytes
abbrev pub fits : {T : Type 0} → ℕ → Stored T → Bool
fits count stored = nat_lt (length stored.rows) stored.room && nat_le (stored.used + count) stored.room

-- each piece ends where the next begins
abbrev pub cut : {T X : Type 0} → ℕ → List (Row T) → List X → List (T × List X)
cut start [] whole = []
cut start (row ∷ rows) whole = (row.tag, take (row.end - start) (drop start whole)) ∷ cut row.end rows whole

-- the pieces stand one behind the other, and the last ends with the whole
abbrev pub AreCut : {T X : Type 0} → ℕ → List (Row T) → List X → Type 0
AreCut start [] whole = start ≡ length whole
AreCut start (row ∷ rows) whole = (start ≤ row.end) × AreCut row.end rows whole

-- where the piece with a number begins
abbrev pub start_of : {T : Type 0} → ℕ → List (Row T) → ℕ → ℕ
start_of start rows zero = start
start_of start [] (suc i) = start
start_of start (row ∷ rows) (suc i) = start_of row.end rows i

-- the values that are kept, for how many there is room, and whether all that came were kept
pub record Logged (T : Type 0) : Type 0 where
  pub items : List T
  pub room : ℕ
  pub whole : Bool

abbrev pub no_items : {T : Type 0} → ℕ → Logged T
no_items room = record { items = []; room = room; whole = true }

-- one more comes: it is kept where there is room
abbrev pub with_item : {T : Type 0} → T → Logged T → Logged T
with_item item log = if nat_lt (length log.items) log.room
    then record { items = log.items ++ item ∷ []; room = log.room; whole = log.whole }
    else record { items = log.items; room = log.room; whole = false }

-- all that came, where all was kept
abbrev pub told_of : {T : Type 0} → Logged T → Option (List T)
told_of log = if log.whole then Some log.items else None

-- the pieces, without their tags
abbrev pub pieces_of : {T : Type 0} → List (T × List ℕ) → List (List ℕ)
pieces_of rows = map (λ row. row.1) rows
