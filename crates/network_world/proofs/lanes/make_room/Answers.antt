use Rattle.std.proofs.Common.{◌∙◌, ap, arith, length, refl}
use Rattle.lemmas.proofs.Lists.{got_below}
use Rattle.network_world.proofs.Lists.{set_length}
use Rattle.network_world.proofs.Sending.{room_all, room_next, room_same}
use Rattle.network_world.proofs.lanes.make_room.Goals as goal

pub loop-i-init : goal.loop-i-init
loop-i-init c = record { count = refl; same = refl; room = λ b l below e. absurd (omega (arith, below)) }

pub returns-in_err-make_room_at-clause-same : goal.returns-in_err-make_room_at-clause-same
returns-in_err-make_room_at-clause-same c =
    let place = got_below c.loop-i.lanes c.loop-i.i
    (omega (arith, c.loop-i-test.true, c.len-i-end.ensures, c.loop-i.invariant.count)) in
    let got = c.in_err-make_room_at.ensures.there place.0 place.1 in
    room_same c.loop-i.lanes c.make_room_at.new.lanes c.loop-i.i place.0 got.0 place.1 got.1 ∙ c.loop-i.invariant.same

pub loop-i-preserved : goal.loop-i-preserved
loop-i-preserved c =
    let place = got_below c.loop-i.lanes c.loop-i.i
    (omega (arith, c.loop-i-test.true, c.len-i-end.ensures, c.loop-i.invariant.count)) in
    let got = c.in_ok-make_room_at.ensures.there place.0 place.1 in
    record {
      count =
          ap length got.1.0 ∙ set_length c.loop-i.lanes c.loop-i.i got.0 ∙ c.loop-i.invariant.count;
      same =
          room_same c.loop-i.lanes c.make_room_at.new.lanes c.loop-i.i place.0 got.0 place.1 got.1
          ∙ c.loop-i.invariant.same;
      room =
          room_next c.loop-i.lanes c.make_room_at.new.lanes c.loop-i.i place.0 got.0 c.loop-i.invariant.room got.1 got.2;
    }

pub returns : goal.returns
returns c =
    record {
      same = c.loop-i.invariant.same;
      room =
          room_all c.loop-i.lanes c.loop-i.i
          (omega (arith, c.loop-i-test.false, c.len-i-end.ensures, c.loop-i.invariant.count))
          c.loop-i.invariant.room;
    }
