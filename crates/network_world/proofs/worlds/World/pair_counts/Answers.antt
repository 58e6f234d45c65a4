use Rattle.std.proofs.Common.{◌∙◌, ap, arith}
use Rattle.std.specs.Prelude.{flat_map}
use Rattle.model.specs.Words.{below}
use Rattle.model.specs.Network.{node_count}
use Rattle.network_world.specs.Parts.{pairs_from}
use Rattle.network_world.proofs.Showing.{rows_next}
use Rattle.network_world.proofs.worlds.World.pair_counts.Goals as goal

pub loop-a-init : goal.loop-a-init
loop-a-init c = λ x old. c.new-counts.ensures

pub add_pairs_from-requires : goal.add_pairs_from-requires
add_pairs_from-requires c = omega (arith, c.loop-a-test.true, c.count-a-end.ensures.value, ap node_count c.net.ensures)

pub loop-a-preserved : goal.loop-a-preserved
loop-a-preserved c = λ x old.
    rows_next x (node_count c.args.self.now.net) c.loop-a.a c.loop-a.counts c.add_pairs_from.new.counts
    (c.loop-a.invariant x old) (c.in_ok-add_pairs_from.ensures x old)

pub returns : goal.returns
returns c = λ x old.
    c.loop-a.invariant x old
    ∙ ap (λ n. flat_map (λ b. pairs_from x b (below (node_count c.args.self.now.net))) (below n))
    (omega (arith, c.loop-a-test.false, c.count-a-end.ensures.value, ap node_count c.net.ensures))
