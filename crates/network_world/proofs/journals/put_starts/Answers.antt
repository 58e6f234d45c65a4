use Rattle.std.proofs.Common.{append-nil, arith, sym}
use Rattle.network_world.proofs.Noting.{start_room, start_room_next, starts_end, starts_next}
use Rattle.network_world.proofs.journals.put_starts.Goals as goal

pub loop-out-init : goal.loop-out-init
loop-out-init c = record { told = sym (append-nil c.args.starts.now.items); room = c.requires }

pub put_start-requires : goal.put_start-requires
put_start-requires c =
    start_room c.args.w c.args.outs.now c.loop-out.out-index c.out-item.result c.loop-out.starts.spare (omega arith)
    c.out-item.is c.loop-out.invariant.room

pub loop-out-preserved : goal.loop-out-preserved
loop-out-preserved c =
    record {
      told =
          starts_next c.args.w c.args.outs.now c.loop-out.out-index c.out-item.result c.args.starts.now.items
          c.loop-out.starts.items c.put_start.new.starts.items (omega arith) c.out-item.is
          c.loop-out.invariant.told c.put_start.ensures.items;
      room =
          start_room_next c.args.w c.args.outs.now c.loop-out.out-index c.out-item.result c.loop-out.starts.spare
          c.put_start.new.starts.spare (omega arith) c.out-item.is c.loop-out.invariant.room
          c.put_start.ensures.less;
    }

pub returns : goal.returns
returns c =
    starts_end c.args.w c.args.outs.now c.loop-out.out-index c.args.starts.now.items c.loop-out.starts.items
    (omega arith) c.loop-out.invariant.told
