use Rattle.std.proofs.Common.{◌++◌, ◌∙◌, List, ap, append-nil, arith, map, sym}
use Rattle.base_types.specs.declared.FeedCount.{FeedCount}
use Rattle.model.specs.Types.{Entry, Orders}
use Rattle.model.specs.Words.{below}
use Rattle.model.specs.Network.{node_count}
use Rattle.model.specs.History.{list_of}
use Rattle.network_world.specs.Parts.{held_by}
use Rattle.network_world.proofs.Showing.{feeds_mapped_next, orders_none}
use Rattle.network_world.proofs.holds.add_orders_at.Goals as goal

pub returns-then-not-has_issued : goal.returns-then-not-has_issued
returns-then-not-has_issued c =
    sym (append-nil c.args.counts.now)
    ∙ ap (λ (l : List FeedCount). c.args.counts.now ++ l)
    (sym (orders_none c.args.node.now c.args.a
    (λ w. ap (λ (kept : List Entry). list_of kept (Orders c.args.a w)) (sym c.owners.ensures)
    ∙ c.has_issued.ensures.nothing c.if-not-has_issued.true w)
    (below (node_count c.args.node.now.net))))

pub loop-w-init : goal.loop-w-init
loop-w-init c = sym (append-nil c.args.counts.now)

pub loop-w-preserved : goal.loop-w-preserved
loop-w-preserved c =
    feeds_mapped_next c.args.node.now (Orders c.args.a) c.loop-w.w c.args.counts.now c.loop-w.counts c.add_feed.new.counts
    c.loop-w.invariant c.in_ok-add_feed.ensures

pub returns : goal.returns
returns c =
    c.loop-w.invariant
    ∙ ap (λ n. c.args.counts.now ++ held_by c.args.node.now (map (Orders c.args.a) (below n)))
    (omega (arith, c.loop-w-test.false, c.count-w-end.ensures.value, ap node_count c.defined.ensures))
