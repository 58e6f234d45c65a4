use Rattle.std.proofs.Common.{arith, length}
use Rattle.node_restart.proofs.Fronts.{gate_goes, uncapped}
use Rattle.node_restart.proofs.Reading.{then_reads}
use Rattle.node_restart.proofs.reads.gate_of.Goals as goal

pub loop-i-preserved : goal.loop-i-preserved
loop-i-preserved g c =
    let K = g.K.Keeper in
    record {
      unspent = c.in_ok-body.ensures.unspent;
      reads =
          then_reads K.kept K.number K.may_leave K.moment K.left_since K.opens_since c.args.keeper.now c.loop-i.keeper
          c.read_body.new.keeper c.loop-i.invariant.reads c.read_body.ensures.reads;
      later = omega (arith, c.loop-i.invariant.later, c.read_body.ensures.later);
      gate =
          gate_goes (K.kept c.args.keeper.now) (K.kept c.loop-i.keeper) c.loop-i.i c.loop-i.gate
          c.saturating_add-gate.result c.in_ok-body.body c.loop-i.invariant.reads.kept c.requires.room
          c.loop-i.invariant.gate c.in_ok-body.ensures.body
          (λ lt. uncapped c.loop-i.gate (length c.in_ok-body.body) c.saturating_add.result c.len.result
          c.saturating_add-gate.result c.saturating_add.ensures c.len.ensures c.saturating_add-gate.ensures lt);
    }
