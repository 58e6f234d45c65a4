-- What a folder looks like after some calls that read it.
use Rattle.std.specs.Prelude.{◌≤◌, ℕ, List}
use Rattle.std.specs.declared.option.Option.{Option}
use Rattle.outside.specs.Files.{Told}
use Rattle.kept_files.specs.Growth.{KeepsMore, OnlyKeepsMore}

-- The calls so far looked at files and no more: a file that others only keep more in keeps what it kept, and what the
-- others may do is what they might have done before.
pub record OnlyLooks {F : Type 0} (seen : F → List ℕ → Option (List ℕ)) (becomes : F → List ℕ → List ℕ → List ℕ → Type 0)
    (faults : F → ℕ) (old new : F) : Type 0 where
  pub grows : (owner : ℕ) (name : List ℕ) → OnlyKeepsMore (becomes old) owner name
      → Told (KeepsMore owner) (seen old name) (seen new name)
  pub others : (name before after : List ℕ) → becomes new name before after → becomes old name before after
  pub later : faults old ≤ faults new
