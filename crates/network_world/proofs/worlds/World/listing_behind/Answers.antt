use Rattle.std.proofs.Common.{◌∙◌, ap}
use Rattle.std.specs.Prelude.{slice_get}
use Rattle.network_world.proofs.Alike.{listing_at}
use Rattle.network_world.proofs.worlds.World.listing_behind.Goals as goal

pub copied_listing-requires : goal.copied_listing-requires
copied_listing-requires c =
    record {
      from = c.requires.last;
      to = c.requires.inside;
      listing = λ x old.
          listing_at c.args.self.now.net x c.args.before.now c.args.w c.args.last c.in-Some.part.now
          (c.requires.before x old)
          (c.in-Some.ensures.item ∙ ap (slice_get c.args.before.now) (c.from.ensures ∙ c.last.view_is));
    }
