use Rattle.std.proofs.Common.{◌∙◌}
use Rattle.network_world.proofs.worlds.World.copied_listing.Goals as goal

pub returns : goal.returns
returns c = λ x old.
    c.in_ok-copied.ensures ∙ c.as_slice.ensures ∙ c.requires.listing x old
    ∙ c.equal_counts_show_equal_listings.ensures c.args.self.now.net x old.reached c.args.from c.args.w
    (c.hold_as_many.ensures c.if-not-hold_as_many.false x old)
