use Rattle.network_world.proofs.Showing.{lane_shown, no_lane_shown}
use Rattle.network_world.proofs.worlds.World.reached.Goals as goal

pub returns-in-Some : goal.returns-in-Some
returns-in-Some c = λ x old.
    (lane_shown c.args.self.now x c.args.from c.args.to c.in-Some.lane.now old c.requires.from c.requires.to
    c.in-Some.ensures).1

pub returns-in-None : goal.returns-in-None
returns-in-None c = λ x old.
    absurd (no_lane_shown c.args.self.now x c.args.from c.args.to old c.requires.from c.requires.to c.in-None.ensures)
