use Rattle.network_world.specs.Lanes.{AreNew}
use Rattle.network_world.proofs.stations.new_lanes.Given as goal

abbrev pub invariant-loop-lane : goal.invariant-loop-lane
invariant-loop-lane l = AreNew l._lane l.made
