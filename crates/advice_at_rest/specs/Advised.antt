-- What goes on in a network where nobody gives an order but what nodes advise themselves.
use Rattle.std.specs.Prelude.{[], ℕ, ◌*◌, ◌+◌, ◌||◌, ◌∷◌, ◌≡◌, ◌⊎◌, Bool, IsTrue, List, Some, false, true}
use Rattle.model.specs.Types.{Net, Take, Typed, Unlinked, WorldStep}
use Rattle.model.specs.Network.{node_count}
use Rattle.model.specs.World.{World, view_at}
use Rattle.recovery_watch.specs.Advice.{advice}
use Rattle.rest_laws.specs.Left.{Caps, caps_of, entries, jobs_ahead, left}
use Rattle.rest_laws.specs.Rounds.{AreTaken}
use Rattle.launches_at_rest.specs.Tells.{tells_left}
use Rattle.launches_at_rest.specs.Told.{works_at}
use Rattle.advice_at_rest.specs.Advices.{advices_left}

-- a workstation gives itself the order that it advises
abbrev pub IsAdvised : World → WorldStep → Type 0
IsAdvised x (Take w (Typed to c)) = (to ≡ w) × (advice (view_at x w) w ≡ Some c)
IsAdvised x _ = ⊥

-- an end of a link goes down
abbrev pub is_unlinking : WorldStep → Bool
is_unlinking (Take w (Unlinked v)) = true
is_unlinking _ = false

-- a turn at one of its readings, a delivery, what is told of processes and files, or an end of a link that comes up or
-- goes down
abbrev pub goes_on : (ℕ → List ℕ) → WorldStep → Bool
goes_on readings s = works_at readings s || is_unlinking s

-- or an order that is advised
abbrev pub MayGoOn : (ℕ → List ℕ) → World → WorldStep → Type 0
MayGoOn readings x s = IsTrue (goes_on readings s) ⊎ IsAdvised x s

-- each of the steps that lead from x to y may go on where it is taken
abbrev pub AllGoOn : (net : Net) (readings : ℕ → List ℕ) (steps : List WorldStep) (x y : World) → AreTaken net x steps y → Type 0
AllGoOn net readings [] x y taken = Unit {0}
AllGoOn net readings (s ∷ steps) x y taken = MayGoOn readings x s × AllGoOn net readings steps taken.0 y taken.2

-- it gives an order
abbrev pub is_typing : WorldStep → Bool
is_typing (Take w (Typed to c)) = true
is_typing _ = false

-- at most so many orders are advised from x on
abbrev pub most_advices : Net → World → ℕ
most_advices net x = advices_left net (1 + jobs_ahead net x) x

-- room for so many orders more
abbrev pub wider : ℕ → (ℕ → Caps) → ℕ → Caps
wider more caps w =
    record {
      of_streams = more + (caps w).of_streams;
      of_jobs = (caps w).of_jobs;
      of_deps = λ o. more + (caps w).of_deps o;
    }

abbrev pub advised_caps : Net → World → ℕ → Caps
advised_caps net x = wider (most_advices net x) (caps_of net x)

-- the entries that there are, that turns can still make, that can still be told, and that can still be advised; an order
-- that is advised leaves an answer, a launch, its start and its end
unfoldable pub advised_entries : Net → (ℕ → List ℕ) → World → ℕ
advised_entries net readings x =
    entries net x
    + (left net (advised_caps net x) readings x + (tells_left net (advised_caps net x) x + 5 * most_advices net x))

-- at most so many rounds gain, from here on
unfoldable pub advised_bound : Net → (ℕ → List ℕ) → World → ℕ
advised_bound net readings x = (node_count net + node_count net * node_count net) * advised_entries net readings x
