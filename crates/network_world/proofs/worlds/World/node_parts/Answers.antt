use Rattle.std.proofs.Common.{◌∙◌, ap, arith, map}
use Rattle.model.specs.Words.{below}
use Rattle.model.specs.Network.{node_count}
use Rattle.network_world.specs.Parts.{node_part}
use Rattle.network_world.proofs.Showing.{parts_next}
use Rattle.network_world.proofs.worlds.World.node_parts.Goals as goal

pub loop-w-init : goal.loop-w-init
loop-w-init c = record { parts = λ x old. c.new-parts.ensures; low = omega arith }

pub node_part-requires : goal.node_part-requires
node_part-requires c =
    record {
      inside = omega (arith, c.loop-w-test.true, c.count-w-end.ensures.value, ap node_count c.net.ensures);
      last =
          omega (
            arith,
            c.loop-w.invariant.low,
            c.loop-w-test.true,
            c.count-w-end.ensures.value,
            ap node_count c.net.ensures,
          );
      before = c.loop-w.invariant.parts;
    }

pub loop-w-preserved : goal.loop-w-preserved
loop-w-preserved c =
    record {
      parts = λ x old.
          parts_next c.args.self.now.net x c.loop-w.w c.loop-w.parts c.push.new.self c.in_ok-part.part
          (c.loop-w.invariant.parts x old) (c.in_ok-part.ensures x old) c.in_ok-push.ensures.ok;
      low = omega arith;
    }

pub returns : goal.returns
returns c = λ x old.
    c.loop-w.invariant.parts x old
    ∙ ap (λ n. map (node_part c.args.self.now.net x) (below n))
    (omega (arith, c.loop-w-test.false, c.count-w-end.ensures.value, ap node_count c.net.ensures))
