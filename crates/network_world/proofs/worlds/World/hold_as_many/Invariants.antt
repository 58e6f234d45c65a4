use Rattle.std.proofs.Common.{◌≡◌, ◌<◌, ℕ}
use Rattle.model.specs.Types.{Events}
use Rattle.model.specs.World.{World}
use Rattle.network_world.specs.Standing.{StandsFor}
use Rattle.network_world.proofs.worlds.World.hold_as_many.Given as goal

abbrev pub invariant-loop-w : goal.invariant-loop-w
invariant-loop-w l =
    (x : World) → StandsFor l.self x → (v : ℕ) → v < l.w
    → x.holdings l.fn.a (Events v) ≡ x.holdings l.fn.b (Events v)
