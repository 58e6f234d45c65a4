-- Rounds one after another, in which processes start and end and files are found.
use Rattle.std.specs.List.{AllByRecursion}
use Rattle.std.specs.Prelude.{ℕ, ◌⊎◌, IsTrue, List, suc, zero}
use Rattle.model.specs.Types.{Net, WorldStep}
use Rattle.model.specs.World.{World}
use Rattle.rest_laws.specs.Rest.{HasDoneItsWork, IsAtRest}
use Rattle.rest_laws.specs.ToRest.{AreLinkedUp, later}
use Rattle.launches_at_rest.specs.Told.{IsWorkingRound, works_at}

-- links that come up, and a round in which clocks read this; a further turn of it may be at any of the readings
pub record IsWorkFrom (net : Net) (readings : ℕ → List ℕ) (reads : ℕ → ℕ) (x y : World) : Type 0 where
  pub begin : World
  pub up : AreLinkedUp net x begin
  pub steps : List WorldStep
  pub keep : AllByRecursion (λ s. IsTrue (works_at readings s)) steps
  pub round : IsWorkingRound net reads begin steps y

-- so many rounds, and the links after them; clocks may go on between them
abbrev pub AreWorkingRounds : Net → (ℕ → List ℕ) → (ℕ → ℕ → ℕ) → ℕ → World → World → Type 0
AreWorkingRounds net readings clocks zero x z = AreLinkedUp net x z
AreWorkingRounds net readings clocks (suc k) x z =
    (y : World) × IsWorkFrom net readings (clocks 0) x y × AreWorkingRounds net readings (later clocks) k y z

-- the network is at rest, with its work done
abbrev pub IsRested : Net → (ℕ → ℕ) → World → Type 0
IsRested net reads x = IsAtRest net reads x × HasDoneItsWork net reads x

-- all of these rounds but at most so many begin at rest
abbrev pub WorkRestsBut : ℕ → (net : Net) (readings : ℕ → List ℕ) (clocks : ℕ → ℕ → ℕ) (k : ℕ) (x z : World)
    → AreWorkingRounds net readings clocks k x z → Type 0
WorkRestsBut n net readings clocks zero x z r = Unit {0}
WorkRestsBut zero net readings clocks (suc k) x z r =
    IsRested net (clocks 0) r.1.begin × WorkRestsBut zero net readings (later clocks) k r.0 z r.2
WorkRestsBut (suc n) net readings clocks (suc k) x z r =
    (IsRested net (clocks 0) r.1.begin × WorkRestsBut (suc n) net readings (later clocks) k r.0 z r.2)
    ⊎ WorkRestsBut n net readings (later clocks) k r.0 z r.2
