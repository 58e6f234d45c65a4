use Rattle.std.proofs.Common.{◌≡◌, length, map}
use Rattle.network_world.specs.Lanes.{seen}
use Rattle.network_world.proofs.Sending.{HaveRoomBelow}
use Rattle.network_world.proofs.lanes.make_room.Given as goal

abbrev pub invariant-loop-i : goal.invariant-loop-i
invariant-loop-i l =
    record {
      count : length l.lanes ≡ length l.initial.lanes;
      same : map seen l.lanes ≡ map seen l.initial.lanes;
      room : HaveRoomBelow l.i l.lanes;
    }
