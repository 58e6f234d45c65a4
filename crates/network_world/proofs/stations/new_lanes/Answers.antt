use Rattle.std.proofs.Common.{arith, subst, ℕ, ◌≡◌}
use Rattle.network_world.specs.Lanes.{AreNew}
use Rattle.network_world.proofs.Beginning.{lane_blank, lanes_begin, lanes_next}
use Rattle.network_world.proofs.stations.new_lanes.Goals as goal

pub loop-lane-init : goal.loop-lane-init
loop-lane-init c = lanes_begin c.new-made.result c.new-made.ensures

pub loop-lane-preserved : goal.loop-lane-preserved
loop-lane-preserved c =
    lanes_next c.loop-lane._lane c.loop-lane.made c.push.new.self c.new.result c.loop-lane.invariant
    (lane_blank c.new.result c.new.ensures.packets c.new.ensures.reached) c.in_ok-push.ensures.ok

pub returns : goal.returns
returns c =
    let same : c.loop-lane._lane ≡ c.args.count = omega arith in
    subst (λ (n : ℕ). AreNew n c.loop-lane.made) same c.loop-lane.invariant
