-- What is due at a workstation by a time that has come: an UNTIL that is to be recorded, or a DEADLINE by which an
-- object is late.
use Rattle.std.specs.Option.{option_or}
use Rattle.std.specs.Prelude.{ℕ, List, Option, filter, is_some, option_and_then}
use Rattle.model.specs.Types.{Job, Obj, Stream}
use Rattle.model.specs.Words.{least}
use Rattle.model.specs.History.{View}
use Rattle.model.specs.OwnMembers.{own_job_numbers, own_numbers, until_at}
use Rattle.model.specs.Lateness.{late_at}
use Rattle.dependencies.specs.declared.dues.Due.{Due}
use Rattle.dependencies.specs.declared.dues.Due.TheVariants.{Late, Until}

-- the lowest dependency of this object that is due
abbrev pub due_at : Due → View → ℕ → Obj → Option (Obj × ℕ)
due_at Until V w o = until_at V w o
due_at Late V w o = late_at V w o

-- that of the lowest of these objects that has one
abbrev pub due_among : Due → View → ℕ → (ℕ → Obj) → List ℕ → Option (Obj × ℕ)
due_among due V w obj numbers =
    option_and_then (λ n. due_at due V w (obj n)) (least (filter (λ n. is_some (due_at due V w (obj n))) numbers))

-- streams before jobs, then the lowest number, then the lowest dependency
abbrev pub first_due : Due → View → ℕ → Option (Obj × ℕ)
first_due due V w =
    option_or (due_among due V w Stream (own_numbers V w)) (due_among due V w Job (own_job_numbers V w))
