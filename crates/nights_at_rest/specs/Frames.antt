-- Rounds in which what was sent comes, whatever number it has: a frame tells what it brings, and no number.
use Rattle.std.specs.List.{AllByRecursion}
use Rattle.std.specs.Prelude.{[], ℕ, ◌<◌, ◌∷◌, ◌≡◌, ◌≤◌, ◌⊎◌, IsTrue, List, Some, suc, zero}
use Rattle.model.specs.Types.{Deliver, Net, Packet, Take, Turn, WorldStep}
use Rattle.model.specs.Words.{nth}
use Rattle.model.specs.Network.{node_count}
use Rattle.model.specs.World.{World}
use Rattle.rest_laws.specs.Leads.{next_packet}
use Rattle.rest_laws.specs.Left.{keeps_to}
use Rattle.rest_laws.specs.Rest.{HasDoneItsWork, IsAtRest}
use Rattle.rest_laws.specs.Rounds.{AreLinked, AreTaken, IsAmong, is_of_round}

-- among these steps one delivers what this packet brings
abbrev pub Comes : (net : Net) (steps : List WorldStep) (x y : World) → AreTaken net x steps y → ℕ → ℕ → Packet → Type 0
Comes net [] x y taken a b p = ⊥
Comes net (s ∷ steps) x y taken a b p =
    ((k : ℕ) × (s ≡ Deliver a b k) × (nth (x.packets a b) k ≡ Some p)) ⊎ Comes net steps taken.0 y taken.2 a b p

-- turns at these readings, and deliveries, lead from x to y
pub record Stretch (net : Net) (reads : ℕ → ℕ) (x y : World) : Type 0 where
  pub steps : List WorldStep
  pub taken : AreTaken net x steps y
  pub each : AllByRecursion (λ s. IsTrue (is_of_round s)) steps
  pub keep : AllByRecursion (λ s. IsTrue (keeps_to (λ w. reads w ∷ []) s)) steps

-- what this packet brings comes in the stretch
abbrev pub ComesIn : (net : Net) (reads : ℕ → ℕ) (x y : World) → Stretch net reads x y → ℕ → ℕ → Packet → Type 0
ComesIn net reads x y s a b p = Comes net s.steps x y s.taken a b p

-- A round in three stretches, over links whose ends are up: a turn of each in the first; what the first sent comes by the
-- end of the second, and what was sent by then by the end of the third. It may come more than once, and in any order, and
-- old packets may come between.
pub record IsFrameRound (net : Net) (reads : ℕ → ℕ) (x y : World) : Type 0 where
  pub turned : World
  pub arrived : World
  pub turning : Stretch net reads x turned
  pub arriving : Stretch net reads turned arrived
  pub answering : Stretch net reads arrived y
  pub linked : AreLinked net x
  pub turns : (n : ℕ) → n < node_count net → IsAmong (Take n (Turn (reads n))) turning.steps
  pub sent : (a b k : ℕ) (p : Packet) → next_packet x a b ≤ k → nth (turned.packets a b) k ≡ Some p
      → ComesIn net reads x turned turning a b p ⊎ ComesIn net reads turned arrived arriving a b p
  pub answers : (a b k : ℕ) (p : Packet) → next_packet x a b ≤ k → nth (arrived.packets a b) k ≡ Some p
      → ComesIn net reads x turned turning a b p
      ⊎ (ComesIn net reads turned arrived arriving a b p ⊎ ComesIn net reads arrived y answering a b p)

-- so many such rounds
abbrev pub AreFrameRounds : Net → (ℕ → ℕ) → ℕ → World → World → Type 0
AreFrameRounds net reads zero x z = x ≡ z
AreFrameRounds net reads (suc k) x z = (y : World) × IsFrameRound net reads x y × AreFrameRounds net reads k y z

-- all of them but at most so many begin at rest, with the work done
abbrev pub BeginAtRestBut : ℕ → (net : Net) (reads : ℕ → ℕ) (k : ℕ) (x z : World) → AreFrameRounds net reads k x z → Type 0
BeginAtRestBut n net reads zero x z r = Unit {0}
BeginAtRestBut zero net reads (suc k) x z r =
    (IsAtRest net reads x × HasDoneItsWork net reads x) × BeginAtRestBut zero net reads k r.0 z r.2
BeginAtRestBut (suc n) net reads (suc k) x z r =
    ((IsAtRest net reads x × HasDoneItsWork net reads x) × BeginAtRestBut (suc n) net reads k r.0 z r.2)
    ⊎ BeginAtRestBut n net reads k r.0 z r.2
