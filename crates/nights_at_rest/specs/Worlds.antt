-- Rounds of the world of the program: a turn of each node, and the feeds that bring all that was sent.
use Rattle.std.specs.List.{AllByRecursion}
use Rattle.std.specs.Prelude.{[], ℕ, ◌++◌, ◌<◌, ◌∷◌, ◌≡◌, ◌≤◌, ◌⊎◌, IsTrue, List, Some, suc, zero}
use Rattle.model.specs.Types.{Deliver, LimitName, Take, Turn, WorldStep}
use Rattle.model.specs.Network.{node_count}
use Rattle.model.specs.World.{World, reached_limit}
use Rattle.rest_laws.specs.Leads.{next_packet}
use Rattle.rest_laws.specs.Left.{keeps_to}
use Rattle.rest_laws.specs.Rest.{HasDoneItsWork, IsAtRest}
use Rattle.rest_laws.specs.Rounds.{AreLinked, IsAmong, is_of_round}
use Rattle.network_world.specs.Standing.{StandsFor, Steps}
use Rattle.network_world.specs.Stations.{WorldState}
use Rattle.network_world.specs.declared.refusals.StepRefused.{StepRefused}
use Rattle.network_world.specs.declared.refusals.StepRefused.TheVariants.{Limit, NoMemory}

-- each step is taken, as the clause `taken` of `World::step` has it
abbrev pub AreSteps : List WorldStep → WorldState → WorldState → Type 0
AreSteps [] s t = t ≡ s
AreSteps (st ∷ steps) s t = (m : WorldState) × Steps s st m × AreSteps steps m t

-- memory ran out, or the world had reached this limit of a replay
abbrev pub IsLimited : World → StepRefused → Type 0
IsLimited x r = (r ≡ NoMemory) ⊎ ((l : LimitName) × (r ≡ Limit l) × (reached_limit x ≡ Some l))

-- A round of it, over links whose ends are up, in three stretches of turns at these readings and deliveries: a turn of
-- each node in the first; what the first sent is delivered by the end of the second, and what was sent by then by the end
-- of the third.
pub record IsWorldRound (reads : ℕ → ℕ) (s t : WorldState) : Type 0 where
  pub turned : WorldState
  pub arrived : WorldState
  pub turning : List WorldStep
  pub arriving : List WorldStep
  pub answering : List WorldStep
  pub to_turned : AreSteps turning s turned
  pub to_arrived : AreSteps arriving turned arrived
  pub to_end : AreSteps answering arrived t
  pub each : AllByRecursion (λ st. IsTrue (is_of_round st)) ((turning ++ arriving) ++ answering)
  pub keep : AllByRecursion (λ st. IsTrue (keeps_to (λ w. reads w ∷ []) st)) ((turning ++ arriving) ++ answering)
  pub linked : (x : World) → StandsFor s x → AreLinked s.net x
  pub turns : (n : ℕ) → n < node_count s.net → IsAmong (Take n (Turn (reads n))) turning
  pub sent : (x z : World) → StandsFor s x → StandsFor turned z → (a b k : ℕ) → next_packet x a b ≤ k
      → k < next_packet z a b → IsAmong (Deliver a b k) (turning ++ arriving)
  pub answers : (x z : World) → StandsFor s x → StandsFor arrived z → (a b k : ℕ) → next_packet x a b ≤ k
      → k < next_packet z a b → IsAmong (Deliver a b k) ((turning ++ arriving) ++ answering)

-- so many of them
abbrev pub AreWorldRounds : (ℕ → ℕ) → ℕ → WorldState → WorldState → Type 0
AreWorldRounds reads zero s t = t ≡ s
AreWorldRounds reads (suc k) s t = (m : WorldState) × IsWorldRound reads s m × AreWorldRounds reads k m t

-- the world is at rest, with its work done
abbrev pub IsWorldAtRest : (ℕ → ℕ) → WorldState → Type 0
IsWorldAtRest reads s = (x : World) × StandsFor s x × IsAtRest s.net reads x × HasDoneItsWork s.net reads x

-- all rounds but at most so many begin so
abbrev pub WorldsRestBut : ℕ → (reads : ℕ → ℕ) (k : ℕ) (s t : WorldState) → AreWorldRounds reads k s t → Type 0
WorldsRestBut n reads zero s t r = Unit {0}
WorldsRestBut zero reads (suc k) s t r = IsWorldAtRest reads s × WorldsRestBut zero reads k r.0 t r.2
WorldsRestBut (suc n) reads (suc k) s t r =
    (IsWorldAtRest reads s × WorldsRestBut (suc n) reads k r.0 t r.2) ⊎ WorldsRestBut n reads k r.0 t r.2
