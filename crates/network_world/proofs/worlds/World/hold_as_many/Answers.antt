use Rattle.std.proofs.Common.{ap, arith}
use Rattle.model.specs.Network.{node_count}
use Rattle.network_world.proofs.Alike.{one_more}
use Rattle.network_world.proofs.worlds.World.hold_as_many.Goals as goal

pub loop-w-init : goal.loop-w-init
loop-w-init c = λ x old v h. absurd (omega (arith, h))

pub loop-w-preserved : goal.loop-w-preserved
loop-w-preserved c = λ x old.
    one_more c.args.self.now.net x c.args.a c.args.b c.loop-w.w c.node-one.result.now c.node-other.result.now
    (c.packets_have_entries.ensures.within c.args.self.now.net x old.reached) (c.node-one.ensures.stands x old)
    (c.node-other.ensures.stands x old) (c.hold_equally.ensures c.if-not-hold_equally.false)
    (c.loop-w.invariant x old)

pub returns : goal.returns
returns c = λ t x old v h.
    c.loop-w.invariant x old v
    (omega (arith, h, c.loop-w-test.false, c.count-w-end.ensures.value, ap node_count c.net.ensures))
