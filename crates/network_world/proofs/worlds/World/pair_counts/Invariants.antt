use Rattle.std.proofs.Common.{◌≡◌, flat_map}
use Rattle.model.specs.Words.{below}
use Rattle.model.specs.Network.{node_count}
use Rattle.model.specs.World.{World}
use Rattle.network_world.specs.Parts.{pairs_from}
use Rattle.network_world.specs.Standing.{StandsFor}
use Rattle.network_world.proofs.worlds.World.pair_counts.Given as goal

abbrev pub invariant-loop-a : goal.invariant-loop-a
invariant-loop-a l =
    (x : World) → StandsFor l.self x
    → l.counts ≡ flat_map (λ c. pairs_from x c (below (node_count l.self.net))) (below l.a)
