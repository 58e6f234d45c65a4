use Rattle.std.proofs.Common.{◌≡◌, ℕ, Some, length}
use Rattle.std.specs.Prelude.{slice_get}
use Rattle.network_world.specs.Stations.{Station}
use Rattle.network_world.specs.Moves.{IsNew}
use Rattle.network_world.proofs.worlds.new_stations.Given as goal

abbrev pub invariant-loop-w : goal.invariant-loop-w
invariant-loop-w l =
    (length l.stations ≡ l.w)
    × ((v : ℕ) (t : Station) → slice_get l.stations v ≡ Some t → IsNew l.net v t)
