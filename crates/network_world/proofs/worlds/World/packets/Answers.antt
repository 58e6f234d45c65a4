use Rattle.std.proofs.Common.{◌∙◌, ap, length}
use Rattle.network_world.proofs.Showing.{lane_shown, lane_short, no_lane_shown}
use Rattle.network_world.proofs.worlds.World.packets.Goals as goal

pub count-requires : goal.count-requires
count-requires c =
    lane_short c.args.self.now c.args.from c.args.to c.in-Some.lane.now c.counts_are_small.ensures.sent
    c.counts_are_small.ensures.lanes c.stands.ensures.world c.stands.ensures.few c.requires.from c.requires.to
    c.in-Some.ensures

pub returns-in-Some : goal.returns-in-Some
returns-in-Some c = λ x old.
    c.count.ensures
    ∙ ap length
    (lane_shown c.args.self.now x c.args.from c.args.to c.in-Some.lane.now old c.requires.from c.requires.to
    c.in-Some.ensures).0

pub returns-in-None : goal.returns-in-None
returns-in-None c = λ x old.
    absurd (no_lane_shown c.args.self.now x c.args.from c.args.to old c.requires.from c.requires.to c.in-None.ensures)
