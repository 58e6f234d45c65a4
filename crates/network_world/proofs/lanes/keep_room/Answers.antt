use Rattle.std.proofs.Common.{arith, drop, refl, subst, ◌+◌, ◌∙◌}
use Rattle.std.specs.Prelude.{List}
use Rattle.lemmas.proofs.Lists.{drop_here}
use Rattle.model.specs.Types.{Out}
use Rattle.network_world.specs.Lanes.{HaveRoomBut}
use Rattle.network_world.proofs.Sending.{room_regained}
use Rattle.network_world.proofs.lanes.keep_room.Goals as goal

pub loop-out-init : goal.loop-out-init
loop-out-init c = record { same = refl; room = c.requires }

pub loop-out-preserved : goal.loop-out-preserved
loop-out-preserved c =
    record {
      same = c.in_ok-keep_room_for.ensures.same ∙ c.loop-out.invariant.same;
      room =
          c.in_ok-keep_room_for.ensures.room (drop (c.loop-out.out-index + 1) c.args.outs.now)
          (subst (λ (outs : List Out). HaveRoomBut outs c.loop-out.lanes)
          (drop_here c.args.outs.now c.loop-out.out-index c.out-item.result (omega arith) c.out-item.is)
          c.loop-out.invariant.room);
    }

pub returns-in_err-keep_room_for-clause-same : goal.returns-in_err-keep_room_for-clause-same
returns-in_err-keep_room_for-clause-same c = c.in_err-keep_room_for.ensures.same ∙ c.loop-out.invariant.same

pub returns : goal.returns
returns c =
    record {
      same = c.loop-out.invariant.same;
      room =
          room_regained c.args.outs.now c.loop-out.out-index c.loop-out.lanes (omega arith) c.loop-out.invariant.room;
    }
