use Rattle.std.proofs.Common.{◌∙◌, arith, sym}
use Rattle.network_world.proofs.Lists.{nth_at}
use Rattle.network_world.proofs.lanes.Lane.packet.Goals as goal

pub returns : goal.returns
returns c = c.get.ensures.item ∙ sym (nth_at c.args.self.now.packets.items c.args.k (omega (arith, c.if-k-eq0.false)))
