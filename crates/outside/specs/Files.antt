-- What the calls of a disk do to its file, and what a stop between two syncs may leave of it.
use Rattle.std.specs.Prelude.{◌≡◌, ◌+◌, ◌≤◌, ℕ, min, List, ◌++◌, length, take, drop, ⊤, Some, None}
use Rattle.std.specs.declared.option.Option.{Option}

-- what is told goes on to be told, and went this step; what is not told stays so
abbrev pub Told : {X : Type 0} → (X → X → Type 0) → Option X → Option X → Type 0
Told step None None = ⊤
Told step (Some old) (Some new) = step old new
Told step None (Some new) = ⊥
Told step (Some old) None = ⊥

-- new is old with these bytes at this place
abbrev pub Holds : ℕ → List ℕ → List ℕ → List ℕ → Type 0
Holds place bytes old new = new ≡ take place old ++ bytes ++ drop (place + length bytes) old

-- new is the front of old
abbrev pub Keeps : ℕ → List ℕ → List ℕ → Type 0
Keeps n old new = new ≡ take n old

-- After a write of n bytes that is not yet on the disk: any bytes in the range, and between the old end and the range;
-- all others stay, and the length is one from the old to the new.
pub record Torn (place n : ℕ) (old new : List ℕ) : Type 0 where
  pub before : take (min place (length old)) new ≡ take place old
  pub after : drop (place + n) new ≡ drop (place + n) old
  pub no_shorter : length old ≤ length new

-- after a cut to n bytes that is not yet on the disk: some length from the new to the old, and any bytes behind the new
pub record Cut (n : ℕ) (old new : List ℕ) : Type 0 where
  pub before : take n new ≡ take n old
  pub no_longer : length new ≤ length old

-- each file that may be left now is one that might have been left before, after this step
abbrev pub Follows : (List ℕ → List ℕ → Type 0) → (List ℕ → Type 0) → (List ℕ → Type 0) → Type 0
Follows step old new = (file : List ℕ) → new file → (was : List ℕ) × old was × step was file

-- each file that this step makes of one that might have been left before may be left now
abbrev pub Reaches : (List ℕ → List ℕ → Type 0) → (List ℕ → Type 0) → (List ℕ → Type 0) → Type 0
Reaches step old new = (was file : List ℕ) → old was → step was file → new file

-- this is left and nothing else
abbrev pub Only : {X : Type 0} → X → (X → Type 0) → Type 0
Only is left = (x : _) → left x → x ≡ is
