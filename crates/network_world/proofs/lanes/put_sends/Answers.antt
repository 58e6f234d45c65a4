use Rattle.std.proofs.Common.{arith}
use Rattle.network_world.proofs.Sending.{lanes_begin, lanes_end, lanes_next, room_one, room_rest}
use Rattle.network_world.proofs.lanes.put_sends.Goals as goal

pub loop-out-init : goal.loop-out-init
loop-out-init c = record { sent = lanes_begin c.args.lanes.now; room = c.requires }

pub put_send-requires : goal.put_send-requires
put_send-requires c =
    room_one c.args.outs.now c.loop-out.out-index c.out-item.result c.loop-out.lanes (omega arith) c.out-item.is
    c.loop-out.invariant.room

pub loop-out-preserved : goal.loop-out-preserved
loop-out-preserved c =
    record {
      sent =
          lanes_next c.args.outs.now c.loop-out.out-index c.out-item.result c.args.lanes.now c.loop-out.lanes
          c.put_send.new.lanes (omega arith) c.out-item.is c.loop-out.invariant.sent c.put_send.ensures;
      room =
          room_rest c.args.outs.now c.loop-out.out-index c.out-item.result c.loop-out.lanes c.put_send.new.lanes
          (omega arith) c.out-item.is c.loop-out.invariant.room c.put_send.ensures;
    }

pub returns : goal.returns
returns c =
    lanes_end c.args.outs.now c.loop-out.out-index c.args.lanes.now c.loop-out.lanes (omega arith)
    c.loop-out.invariant.sent
