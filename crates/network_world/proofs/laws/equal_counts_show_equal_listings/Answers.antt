use Rattle.std.proofs.Common.{subst, sym}
use Rattle.model.specs.Invariant.{Invariant}
use Rattle.model.specs.World.{World, view_at}
use Rattle.network_world.proofs.Alike.{alike}
use Rattle.network_world.proofs.laws.equal_counts_show_equal_listings.Goals as goal

pub returns : goal.returns
returns c = λ net x r a b same.
    c.shows_events_alone.ensures.listing net (view_at x a) (view_at x b)
    (alike net x a b
    (subst (λ (y : World). Invariant net y) (sym r.by_them) (c.every_world_meets_the_invariant.ensures net r.steps))
    same)
