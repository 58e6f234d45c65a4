use Rattle.std.proofs.Common.{ap, sym, ◌∙◌}
use Rattle.owner_fold.specs.Ordered.{has_orders}
use Rattle.owner_fold.proofs.Ordering.{no_orders}
use Rattle.owner_fold.proofs.holdings.Owners.has_orders.Goals as goal

pub returns-clause-orders : goal.returns-clause-orders
returns-clause-orders c = c.self.invariant.ordered ∙ ap has_orders c.self.view_is

pub returns-clause-nothing : goal.returns-clause-nothing
returns-clause-nothing c h =
    no_orders c.args.self.now (sym (ap has_orders c.self.view_is) ∙ sym c.self.invariant.ordered ∙ h)
