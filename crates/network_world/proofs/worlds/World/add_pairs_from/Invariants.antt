use Rattle.std.proofs.Common.{◌≡◌, ◌++◌}
use Rattle.model.specs.Words.{below}
use Rattle.model.specs.World.{World}
use Rattle.network_world.specs.Parts.{pairs_from}
use Rattle.network_world.specs.Standing.{StandsFor}
use Rattle.network_world.proofs.worlds.World.add_pairs_from.Given as goal

abbrev pub invariant-loop-b : goal.invariant-loop-b
invariant-loop-b l =
    (x : World) → StandsFor l.self x → l.counts ≡ l.initial.counts ++ pairs_from x l.a (below l.b)
