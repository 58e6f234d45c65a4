use Rattle.std.proofs.Common.{◌≡◌, drop, map}
use Rattle.network_world.specs.Lanes.{HaveRoomBut, seen}
use Rattle.network_world.proofs.lanes.keep_room.Given as goal

abbrev pub invariant-loop-out : goal.invariant-loop-out
invariant-loop-out l =
    record {
      same : map seen l.lanes ≡ map seen l.initial.lanes;
      room : HaveRoomBut (drop l.out-index l.outs) l.lanes;
    }
