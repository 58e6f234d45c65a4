-- Launches that are started, one start further.
use Rattle.std.proofs.Common.{[], ℕ, ◌&&◌, ◌++◌, ◌∙◌, ◌∷◌, ◌≡◌, Bool, List, ap, refl, sym}
use Rattle.std.proofs.lemmas.List.Folds.{list_any-append}
use Rattle.std.specs.List.{list_any}
use Rattle.std.specs.Prelude.{◌==◌, ◌||◌}
use Rattle.lemmas.proofs.Booleans.{or_false, or_turned}
use Rattle.lemmas.proofs.Numbers.{eq_turned}
use Rattle.indexmap.specs.IndexSet.{contains}
use Rattle.model.specs.Types.{Start}
use Rattle.model.specs.Sound.{same_launch}
use Rattle.event_audit.specs.Starts.{AreStarted, same_pair}
use Rattle.event_audit.specs.declared.starts.StartedLaunches.{StartedLaunches}

pub nothing_started : (t : StartedLaunches) → t.launches.keys ≡ [] → AreStarted [] t
nothing_started t none j n = ap (λ (l : List (ℕ × ℕ)). list_any (same_pair (j, n)) l) none

pub started_more : (earlier : List Start) (s : Start) (k : ℕ × ℕ) (old new : StartedLaunches) → k.0 ≡ s.job
    → k.1 ≡ s.number
    → ((q : ℕ × ℕ) → contains same_pair new.launches q ≡ (same_pair k q || contains same_pair old.launches q))
    → AreStarted earlier old → AreStarted (earlier ++ s ∷ []) new
started_more earlier s k old new is_job is_number put h j n =
    put (j, n)
    ∙ ap (λ (b : Bool). b || contains same_pair old.launches (j, n))
    (ap (λ (m : ℕ). (m == j) && (k.1 == n)) is_job ∙ ap (λ (m : ℕ). (s.job == j) && (m == n)) is_number
    ∙ (rw (eq_turned s.job j, eq_turned s.number n) refl))
    ∙ ap (λ (b : Bool). ((j == s.job) && (n == s.number)) || b) (h j n)
    ∙ or_turned ((j == s.job) && (n == s.number)) (list_any (λ (t : Start). (j == t.job) && (n == t.number)) earlier)
    ∙ ap (λ (b : Bool). list_any (λ (t : Start). (j == t.job) && (n == t.number)) earlier || b)
    (sym (or_false ((j == s.job) && (n == s.number))))
    ∙ sym (list_any-append (λ (t : Start). (j == t.job) && (n == t.number)) earlier (s ∷ []))

-- the launch of a start is among them where an earlier start is of it
pub started_at : (t : StartedLaunches) (earlier : List Start) (s : Start) (k : ℕ × ℕ) (b : Bool) → k.0 ≡ s.job
    → k.1 ≡ s.number → b ≡ contains same_pair t.launches (k.0, k.1) → AreStarted earlier t
    → b ≡ list_any (same_launch s) earlier
started_at t earlier s k b is_job is_number told h =
    told ∙ h k.0 k.1
    ∙ ap (λ (m : ℕ). list_any (λ (u : Start). (m == u.job) && (k.1 == u.number)) earlier) is_job
    ∙ ap (λ (m : ℕ). list_any (λ (u : Start). (s.job == u.job) && (m == u.number)) earlier) is_number
