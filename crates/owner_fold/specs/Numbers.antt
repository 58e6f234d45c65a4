-- Where in a list each number stands first.
use Rattle.std.specs.Prelude.{[], ℕ, ◌+◌, ◌==◌, ◌∷◌, ◌≡◌, List, None, Option, Some, cond, nat_eq, option_map}
use Rattle.indexmap.specs.IndexMap.{get}
use Rattle.owner_fold.specs.declared.numbers.Numbers.{Numbers}
use Rattle.owner_fold.specs.declared.numbers.Index.{Index}

-- where a number stands first
abbrev pub place_of : List ℕ → ℕ → Option ℕ
place_of [] n = None
place_of (x ∷ xs) n = cond (x == n) (Some 0) (option_map (λ i. i + 1) (place_of xs n))

-- the places of these numbers
abbrev pub ArePlaces : List ℕ → Numbers → Type 0
ArePlaces numbers p = (n : ℕ) → get nat_eq p.places n ≡ place_of numbers n

-- those of the streams and jobs of the catalogue, and of the members
pub record IsIndexOf (of_streams of_jobs of_members : List ℕ) (x : Index) : Type 0 where
  pub streams : ArePlaces of_streams x.streams
  pub jobs : ArePlaces of_jobs x.jobs
  pub members : ArePlaces of_members x.members
