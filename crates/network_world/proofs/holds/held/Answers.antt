use Rattle.network_world.proofs.Showing.{feeds_all}
use Rattle.network_world.proofs.holds.held.Goals as goal

pub returns : goal.returns
returns c =
    feeds_all c.args.node.now c.new-counts.result c.add_events.new.counts c.add_orders.new.counts
    c.new-counts.ensures c.in_ok-add_events.ensures c.in_ok-add_orders.ensures
