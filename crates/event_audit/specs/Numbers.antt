-- Numbers of jobs that go on from another.
use Rattle.std.specs.Prelude.{ℕ, ◌+◌, ◌≡◌, List, length, map}
use Rattle.model.specs.Types.{JobDoc}
use Rattle.model.specs.Words.{numbers_from}

-- the jobs have the numbers after this one, in order
abbrev pub GoOnFrom : ℕ → List JobDoc → Type 0
GoOnFrom last jobs = map (λ (j : JobDoc). j.no) jobs ≡ numbers_from (1 + last) (length jobs)

-- and the next one is the number of the last of them
pub record GoOnTo (last : ℕ) (jobs : List JobDoc) (next : ℕ) : Type 0 where
  pub go_on : GoOnFrom last jobs
  pub end_ : next ≡ last + length jobs
