-- What a stop leaves while a node is made anew.
use Rattle.std.specs.Prelude.{ℕ, List, ◌≤◌, ⊤, Some, None}
use Rattle.std.specs.declared.option.Option.{Option}
use Rattle.outside.specs.Kept.{Bodies}
use Rattle.message_file.specs.State.{IsOwn, KeptLeft}

-- the bodies that are kept of what a stop at some moment from that one on might have left
abbrev pub KeptSince : {D : Type 0} → (D → ℕ → List ℕ → Type 0) → D → ℕ → Bodies → Type 0
KeptSince left_since disk t = KeptLeft (left_since disk t)

-- the files are all of the owner
abbrev pub AreOwn : ℕ → (List ℕ → Type 0) → Type 0
AreOwn owner left = (file : List ℕ) → left file → IsOwn owner file

-- where the file that is read, and all that a stop since a moment left, were files of the owner, what a stop since that
-- moment left is so still
abbrev pub StaysOwn : ℕ → Option (List ℕ) → (List ℕ → Type 0) → (List ℕ → Type 0) → Type 0
StaysOwn owner None before now = ⊤
StaysOwn owner (Some file) before now = IsOwn owner file → AreOwn owner before → AreOwn owner now

-- the same of every moment up to the old one
abbrev pub StayOwn : {D : Type 0} → ℕ → (D → ℕ) → (D → Option (List ℕ)) → (D → ℕ → List ℕ → Type 0) → D → D → Type 0
StayOwn owner moment seen left_since old new =
    (t : ℕ) → t ≤ moment old → StaysOwn owner (seen old) (left_since old t) (left_since new t)
