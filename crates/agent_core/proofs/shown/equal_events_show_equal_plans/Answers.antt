use Rattle.std.proofs.Common.{◌∙◌, ap}
use Rattle.model.specs.Types.{Net}
use Rattle.symphony_view.specs.Listings.{listing_of}
use Rattle.symphony_view.specs.Symphonies.{symphony_of}
use Rattle.agent_core.specs.Nodes.{view_in}
use Rattle.agent_core.proofs.shown.equal_events_show_equal_plans.Goals as goal

pub returns : goal.returns
returns c =
    record {
      listing =
          λ a b e s. ap (λ (net : Net). listing_of net (view_in a)) e
          ∙ c.shows_events_alone.ensures.listing b.net (view_in a) (view_in b) s;
      symphony =
          λ a b e s. ap (λ (net : Net). symphony_of net (view_in a)) e
          ∙ c.shows_events_alone.ensures.symphony b.net (view_in a) (view_in b) s;
    }
