use Rattle.std.proofs.Common.{◌≡◌, ◌≤◌, map}
use Rattle.model.specs.Words.{below}
use Rattle.model.specs.World.{World}
use Rattle.network_world.specs.Parts.{node_part}
use Rattle.network_world.specs.Standing.{StandsFor}
use Rattle.network_world.proofs.worlds.World.node_parts.Given as goal

abbrev pub invariant-loop-w : goal.invariant-loop-w
invariant-loop-w l =
    record {
      parts : (x : World) → StandsFor l.self x → l.parts ≡ map (node_part l.self.net x) (below l.w);
      low : l.last ≤ l.w;
    }
