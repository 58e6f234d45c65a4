-- A world tells by itself that its network comes to rest.
use Rattle.std.proofs.Common.{◌≡◌, ℕ, ◌+◌, ◌<◌, true, List}
use Rattle.model.specs.Types.{Net}
use Rattle.model.specs.Network.{IsTree}
use Rattle.model.specs.Invariant.{Invariant}
use Rattle.model.specs.World.{World}
use Rattle.rest_laws.specs.Left.{caps_of, entries, left}
use Rattle.rest_laws.specs.Short.{are_answers_short}
use Rattle.rest_laws.specs.ToRest.{AreAmong, ComesToRest, names_inside}
use Rattle.rest_laws.proofs.Lasting.{lasting}
use Rattle.rest_laws.proofs.Room.{has_room}
use Rattle.rest_laws.proofs.Shorts.{always_short}

pub told : (net : Net) (readings : ℕ → List ℕ) (clocks : ℕ → ℕ → ℕ) (x : World) → IsTree net → Invariant net x
    → names_inside net x ≡ true → are_answers_short net x ≡ true
    → entries net x + left net (caps_of net x) readings x < 4294967295 → ((k : ℕ) → AreAmong readings (clocks k))
    → ComesToRest net readings clocks x
told net readings clocks x tree inv names short few =
    lasting net readings clocks x tree inv names
    (has_room net readings x inv few (always_short net readings x inv names short))
