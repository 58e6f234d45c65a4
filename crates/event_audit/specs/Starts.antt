-- Launches that were started.
use Rattle.std.specs.List.{list_any}
use Rattle.std.specs.Prelude.{ℕ, ◌&&◌, ◌==◌, ◌≡◌, Bool, List}
use Rattle.indexmap.specs.IndexSet.{contains}
use Rattle.model.specs.Types.{Start}
use Rattle.event_audit.specs.declared.starts.StartedLaunches.{StartedLaunches}

-- both are one, by their jobs and numbers
abbrev pub same_pair : ℕ × ℕ → ℕ × ℕ → Bool
same_pair p q = (p.0 == q.0) && (p.1 == q.1)

-- just the launches of these starts are among them
abbrev pub AreStarted : List Start → StartedLaunches → Type 0
AreStarted starts t =
    (j n : ℕ)
    → contains same_pair t.launches (j, n) ≡ list_any (λ (s : Start). (j == s.job) && (n == s.number)) starts
