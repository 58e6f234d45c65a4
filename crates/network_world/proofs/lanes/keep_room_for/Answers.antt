use Rattle.std.proofs.Common.{ap, arith, subst, sym, ℕ, ◌∙◌, ◌∷◌, ◌≡◌}
use Rattle.std.specs.Prelude.{List, OnOk}
use Rattle.model.specs.Types.{Out, Send}
use Rattle.network_world.specs.Lanes.{HaveRoomBut}
use Rattle.network_world.proofs.Sending.{lanes_same, room_again, room_passed, sends_nothing}
use Rattle.network_world.proofs.lanes.keep_room_for.Goals as goal

pub returns-in-Send : goal.returns-in-Send
returns-in-Send c =
    let at_to : c.from.result ≡ c.in-Send.to = omega (arith, c.from.ensures, c.to.view_is) in
    record {
      same =
          lanes_same c.args.lanes.now c.make_room_at.new.lanes c.from.result c.make_room_at.result
          c.make_room_at.ensures.there c.make_room_at.ensures.none;
      room =
          subst (λ (out : Out). OnOk c.make_room_at.result ((outs : List Out)
          → HaveRoomBut (out ∷ outs) c.args.lanes.now → HaveRoomBut outs c.make_room_at.new.lanes))
          (ap (λ (w : ℕ). Send w c.in-Send._packet) at_to ∙ sym c.in-Send.is)
          (room_again c.args.lanes.now c.make_room_at.new.lanes c.from.result c.make_room_at.result
          c.make_room_at.ensures.there c.make_room_at.ensures.none c.in-Send._packet);
    }

pub returns-in_default-clause-room : goal.returns-in_default-clause-room
returns-in_default-clause-room c =
    λ outs. room_passed c.args.out.now outs c.args.lanes.now (sends_nothing c.args.out.now c.in_default.not-Send)
