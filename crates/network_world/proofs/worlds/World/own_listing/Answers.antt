use Rattle.std.proofs.Common.{◌∙◌}
use Rattle.network_world.proofs.Showing.{listing_shown}
use Rattle.network_world.proofs.worlds.World.own_listing.Goals as goal

pub returns : goal.returns
returns c = λ x old.
    c.in_ok-listing.ensures
    ∙ listing_shown c.args.self.now.net x c.args.w c.node-node.result.now (c.node-node.ensures.stands x old)
