-- Who watches what.
use Rattle.std.specs.HashMap.{get}
use Rattle.std.specs.Prelude.{[], ℕ, ◌++◌, ◌∷◌, ◌≡◌, ◌≢◌, List, nat_eq, unwrap_or}
use Rattle.ready_index.specs.declared.targets.Target.{Target}
use Rattle.ready_index.specs.declared.targets.Target.TheVariants.{EndOfJob, EndOfStream, ReleaseOf}
use Rattle.ready_index.specs.declared.watches.Waiting.{Waiting}
use Rattle.ready_index.specs.declared.watches.Watches.{Watches}

-- the jobs that watch this number
abbrev pub waiting_at : Waiting → ℕ → List ℕ
waiting_at waiting n = unwrap_or (get nat_eq waiting.lists n) []

-- the jobs that watch this
abbrev pub waiting_for : Watches → Target → List ℕ
waiting_for watches (ReleaseOf s) = waiting_at watches.releases s
waiting_for watches (EndOfJob j) = waiting_at watches.jobs j
waiting_for watches (EndOfStream s) = waiting_at watches.streams s

-- one more job watches a target, and who watches another stays
pub record AddsOne (old new : Watches) (target : Target) (job : ℕ) : Type 0 where
  pub here : waiting_for new target ≡ waiting_for old target ++ job ∷ []
  pub others : (t : Target) → t ≢ target → waiting_for new t ≡ waiting_for old t

-- who watched a target is taken out, and who watches another stays
pub record TakesAll (old new : Watches) (target : Target) (jobs : List ℕ) : Type 0 where
  pub taken : jobs ≡ waiting_for old target
  pub others : (t : Target) → t ≢ target → waiting_for new t ≡ waiting_for old t
