use Rattle.std.proofs.Common.{◌≡◌, ◌++◌, map}
use Rattle.model.specs.Types.{Events}
use Rattle.model.specs.Words.{below}
use Rattle.network_world.specs.Parts.{held_by}
use Rattle.network_world.proofs.holds.add_events.Given as goal

abbrev pub invariant-loop-w : goal.invariant-loop-w
invariant-loop-w l = l.counts ≡ l.initial.counts ++ held_by l.node (map Events (below l.w))
