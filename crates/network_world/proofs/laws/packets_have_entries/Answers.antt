use Rattle.std.proofs.Common.{◌≤◌, length, subst, sym}
use Rattle.std.specs.List.{AllByRecursion}
use Rattle.model.specs.History.{list_of}
use Rattle.model.specs.Invariant.{IsBacked}
use Rattle.model.specs.World.{World}
use Rattle.network_world.proofs.laws.packets_have_entries.Goals as goal

pub returns : goal.returns
returns c =
    record {
      backed = λ net x r a b.
          subst (λ (y : World). AllByRecursion (IsBacked (y.holdings a)) (y.packets a b)) (sym r.by_them)
          (c.packets_are_backed.ensures.sent net r.steps a b);
      within = λ net x r w f.
          subst (λ (y : World). y.holdings w f ≤ length (list_of y.history f)) (sym r.by_them)
          (c.holdings_are_there.ensures.within net r.steps w f);
    }
