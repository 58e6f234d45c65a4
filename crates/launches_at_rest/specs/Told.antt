-- What is told of processes and files, and rounds in which that happens.
use Rattle.std.specs.List.{AllByRecursion}
use Rattle.std.specs.Prelude.{ℕ, ◌++◌, ◌<◌, ◌||◌, ◌≡◌, ◌≤◌, Bool, IsTrue, List, false, true}
use Rattle.model.specs.Types.{Deliver, Fulfil, Local, Net, StartFailed, Take, Turn, WorldStep}
use Rattle.model.specs.Network.{node_count}
use Rattle.model.specs.World.{World}
use Rattle.rest_laws.specs.Leads.{next_packet}
use Rattle.rest_laws.specs.Left.{keeps_to}
use Rattle.rest_laws.specs.Rounds.{AreTaken, IsAmong, is_of_round}

-- a process has started, could not start, or has ended; or a file is there
abbrev pub is_told : WorldStep → Bool
is_told (Take w (Local.Started j)) = true
is_told (Take w (StartFailed j)) = true
is_told (Take w (Local.Ended j rc)) = true
is_told (Take w (Fulfil o i)) = true
is_told _ = false

-- a turn, a delivery, or what is told: all that happens where nobody gives an order or makes a plan, and no workstation
-- stops
abbrev pub is_of_work : WorldStep → Bool
is_of_work s = is_of_round s || is_told s

-- each turn is at one of its workstation's readings
abbrev pub works_at : (ℕ → List ℕ) → WorldStep → Bool
works_at readings s = keeps_to readings s || is_told s

-- An open round in which things are told: a turn of each in the first stretch; what was sent by the end of the first is
-- delivered by the end of the second, and what was sent by then by the end of the third. What is told may be told at any
-- moment, and any number of times.
pub record IsWorkingRound (net : Net) (readings : ℕ → ℕ) (x : World) (steps : List WorldStep) (y : World) : Type 0 where
  pub turning : List WorldStep
  pub turned : World
  pub arriving : List WorldStep
  pub arrived : World
  pub answering : List WorldStep
  pub split : steps ≡ (turning ++ arriving) ++ answering
  pub to_turned : AreTaken net x turning turned
  pub to_arrived : AreTaken net turned arriving arrived
  pub to_end : AreTaken net arrived answering y
  pub each : AllByRecursion (λ s. IsTrue (is_of_work s)) steps
  pub turns : (n : ℕ) → n < node_count net → IsAmong (Take n (Turn (readings n))) turning
  pub sent :
      (a b k : ℕ) → next_packet x a b ≤ k → k < next_packet turned a b
      → IsAmong (Deliver a b k) (turning ++ arriving)
  pub answers :
      (a b k : ℕ) → next_packet x a b ≤ k → k < next_packet arrived a b → IsAmong (Deliver a b k) steps
