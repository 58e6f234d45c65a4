use Rattle.std.proofs.Common.{drop, take}
use Rattle.network_world.specs.Lanes.{HaveMore, HaveRoomFor}
use Rattle.network_world.proofs.lanes.put_sends.Given as goal

abbrev pub invariant-loop-out : goal.invariant-loop-out
invariant-loop-out l =
    record {
      sent : HaveMore (take l.out-index l.outs) l.initial.lanes l.lanes;
      room : HaveRoomFor (drop l.out-index l.outs) l.lanes;
    }
