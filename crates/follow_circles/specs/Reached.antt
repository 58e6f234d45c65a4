-- The objects that were reached, and their marks.
use Rattle.std.specs.Prelude.{◌≡◌, ◌⊎◌, ◌↔◌, ℕ, ◌<◌, true, false, List, ◌++◌, length, count_by, Contains, slice_index_or}
use Rattle.follow_circles.specs.declared.asking.Reached.{Reached}

-- the place has a mark
abbrev pub IsMarked : Reached → ℕ → Type 0
IsMarked r v = slice_index_or r.marks.items v false ≡ true

-- exactly those places have a mark that were put, each once
pub record IsWhole (r : Reached) : Type 0 where
  pub same : (v : ℕ) → IsMarked r v ↔ Contains r.places.items v
  pub counted : length r.places.items ≡ count_by (λ b. b) r.marks.items

-- these places that objects have get their marks besides, and the places stand behind those before
pub record MarksThese (old new : Reached) (places : List ℕ) : Type 0 where
  pub room : length new.marks.items ≡ length old.marks.items
  pub behind : (more : List ℕ) × (new.places.items ≡ old.places.items ++ more)
  pub marked : (v : ℕ) → v < length old.marks.items → IsMarked new v ↔ (IsMarked old v ⊎ Contains places v)
  pub whole : IsWhole old → IsWhole new
