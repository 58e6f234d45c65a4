use Rattle.std.proofs.Common.{◌+◌, ◌*◌, ◌≤◌, length, subst, sym}
use Rattle.model.specs.Network.{node_count}
use Rattle.model.specs.World.{World}
use Rattle.network_world.proofs.laws.counts_are_small.Goals as goal

pub returns : goal.returns
returns c =
    record {
      sent = λ net x r.
          subst (λ (y : World). y.sent ≤ 19999999 + 8 * node_count net) (sym r.by_them)
          (c.worlds_send_few_packets.ensures.any net r.steps);
      kept = λ net x r.
          subst (λ (y : World). y.kept ≤ 272629759) (sym r.by_them) (c.worlds_keep_few_bytes.ensures net r.steps);
      lanes = λ net x r a b.
          subst (λ (y : World). length (y.packets a b) ≤ y.sent) (sym r.by_them)
          (c.lanes_have_no_more_packets_than_were_sent.ensures.run net r.steps a b);
    }
