-- What a stop may leave after several calls since the last sync: told by the calls one by one, and told at once.
use Rattle.std.specs.Prelude.{◌≡◌, ◌+◌, ◌<◌, ◌≤◌, ◌⊎◌, ℕ, min, max, List, [], ◌∷◌, length, get_or, ⊤}
use Rattle.outside.specs.Files.{Torn, Cut}

-- A call that changes the file: a write at a place, of so many bytes, or a cut to a length. Lists of calls have the last
-- call first.
pub data Change : Type 0 where
  Write : ℕ → ℕ → Change
  CutTo : ℕ → Change

-- how many bytes reads give after the calls, of a file that had so many
abbrev pub length_now : ℕ → List Change → ℕ
length_now len [] = len
length_now len (Write place n ∷ before) = max (length_now len before) (place + n)
length_now len (CutTo n ∷ before) = n

-- the least and the greatest of these lengths since the sync
abbrev pub least : ℕ → List Change → ℕ
least len [] = len
least len (call ∷ before) = min (least len before) (length_now len (call ∷ before))

abbrev pub greatest : ℕ → List Change → ℕ
greatest len [] = len
greatest len (call ∷ before) = max (greatest len before) (length_now len (call ∷ before))

-- each call names a place within the file as it was then
abbrev pub AreWithin : ℕ → List Change → Type 0
AreWithin len [] = ⊤
AreWithin len (Write place n ∷ before) = (place ≤ length_now len before) × AreWithin len before
AreWithin len (CutTo n ∷ before) = (n ≤ length_now len before) × AreWithin len before

-- the byte at i was written by one of the calls
abbrev pub IsWritten : ℕ → List Change → Type 0
IsWritten i [] = ⊥
IsWritten i (Write place n ∷ before) = ((place ≤ i) × (i < place + n)) ⊎ IsWritten i before
IsWritten i (CutTo n ∷ before) = IsWritten i before

-- Told at once: some length from the least to the greatest, and any bytes but for those in front of the least length
-- that no call wrote, which stay.
pub record MayRemain (synced : List ℕ) (calls : List Change) (file : List ℕ) : Type 0 where
  pub no_shorter : least (length synced) calls ≤ length file
  pub no_longer : length file ≤ greatest (length synced) calls
  pub others_stay : (i : ℕ) → i < least (length synced) calls → (IsWritten i calls → ⊥) → get_or file i 0 ≡ get_or synced i 0

-- what one call may do to a file that a stop before it might have left
abbrev pub Step : Change → List ℕ → List ℕ → Type 0
Step (Write place n) was file = Torn place n was file
Step (CutTo n) was file = Cut n was file

-- told one by one: what the calls in turn may do
abbrev pub Remains : List ℕ → List Change → List ℕ → Type 0
Remains synced [] file = file ≡ synced
Remains synced (call ∷ before) file = (was : List ℕ) × Remains synced before was × Step call was file
