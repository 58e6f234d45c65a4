-- Rounds of the world of the program in which something may be told of processes and files.
use Rattle.std.specs.List.{AllByRecursion}
use Rattle.std.specs.Prelude.{[], ℕ, ◌++◌, ◌<◌, ◌∷◌, ◌≡◌, ◌≤◌, ◌⊎◌, IsTrue, List, suc, zero}
use Rattle.model.specs.Types.{Deliver, Take, Turn, WorldStep}
use Rattle.model.specs.Network.{node_count}
use Rattle.model.specs.World.{World}
use Rattle.rest_laws.specs.Leads.{next_packet}
use Rattle.rest_laws.specs.Rounds.{AreLinked, IsAmong}
use Rattle.network_world.specs.Standing.{StandsFor}
use Rattle.network_world.specs.Stations.{WorldState}
use Rattle.nights_at_rest.specs.Worlds.{AreSteps, IsWorldAtRest}
use Rattle.launches_at_rest.specs.Told.{is_of_work, works_at}

-- A round over links whose ends are up, in three stretches of turns at these readings, deliveries, and starts, ends and
-- files that are told: a turn of each node in the first; what the first sent is delivered by the end of the second, and
-- what was sent by then by the end of the third.
pub record IsWorldWork (reads : ℕ → ℕ) (s t : WorldState) : Type 0 where
  pub turned : WorldState
  pub arrived : WorldState
  pub turning : List WorldStep
  pub arriving : List WorldStep
  pub answering : List WorldStep
  pub to_turned : AreSteps turning s turned
  pub to_arrived : AreSteps arriving turned arrived
  pub to_end : AreSteps answering arrived t
  pub each : AllByRecursion (λ st. IsTrue (is_of_work st)) ((turning ++ arriving) ++ answering)
  pub keep : AllByRecursion (λ st. IsTrue (works_at (λ w. reads w ∷ []) st)) ((turning ++ arriving) ++ answering)
  pub linked : (x : World) → StandsFor s x → AreLinked s.net x
  pub turns : (n : ℕ) → n < node_count s.net → IsAmong (Take n (Turn (reads n))) turning
  pub sent : (x z : World) → StandsFor s x → StandsFor turned z → (a b k : ℕ) → next_packet x a b ≤ k
      → k < next_packet z a b → IsAmong (Deliver a b k) (turning ++ arriving)
  pub answers : (x z : World) → StandsFor s x → StandsFor arrived z → (a b k : ℕ) → next_packet x a b ≤ k
      → k < next_packet z a b → IsAmong (Deliver a b k) ((turning ++ arriving) ++ answering)

-- so many of them
abbrev pub AreWorldWorks : (ℕ → ℕ) → ℕ → WorldState → WorldState → Type 0
AreWorldWorks reads zero s t = t ≡ s
AreWorldWorks reads (suc k) s t = (m : WorldState) × IsWorldWork reads s m × AreWorldWorks reads k m t

-- all rounds but at most so many begin with the world at rest, and its work done
abbrev pub WorksRestBut : ℕ → (reads : ℕ → ℕ) (k : ℕ) (s t : WorldState) → AreWorldWorks reads k s t → Type 0
WorksRestBut n reads zero s t r = Unit {0}
WorksRestBut zero reads (suc k) s t r = IsWorldAtRest reads s × WorksRestBut zero reads k r.0 t r.2
WorksRestBut (suc n) reads (suc k) s t r =
    (IsWorldAtRest reads s × WorksRestBut (suc n) reads k r.0 t r.2) ⊎ WorksRestBut n reads k r.0 t r.2
