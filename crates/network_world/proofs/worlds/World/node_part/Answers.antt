use Rattle.network_world.proofs.Showing.{part_shown}
use Rattle.network_world.proofs.worlds.World.node_part.Goals as goal

pub returns : goal.returns
returns c = λ x old.
    part_shown c.args.self.now.net x c.args.w c.node-node.result.now c.in_ok-holds.holds c.in_ok-listing.listing
    (c.packets_have_entries.ensures.within c.args.self.now.net x old.reached) (c.node-node.ensures.stands x old)
    c.in_ok-holds.ensures (c.in_ok-listing.ensures x old)
