use Rattle.std.proofs.Common.{List, map, refl, subst, sym, ◌∙◌}
use Rattle.lemmas.proofs.Results.{on_err}
use Rattle.agent_core.specs.Nodes.{session_in, view_in}
use Rattle.agent_core.specs.Steps.{effect_in}
use Rattle.model.specs.Types.{Out}
use Rattle.network_world.specs.Lanes.{HaveMore, HaveRoomBut, HaveRoomFor, seen}
use Rattle.network_world.specs.Stations.{Lane, Station}
use Rattle.network_world.specs.Moves.{HasTaken, IsInputDue}
use Rattle.network_world.proofs.Sending.{room_but, room_enough, tested}
use Rattle.network_world.proofs.Stopped.{refused_due, same_station, station, station_taken}
use Rattle.network_world.proofs.stations.Station.take.Goals as goal

pub returns-in_err-make_room-clause-err : goal.returns-in_err-make_room-clause-err
returns-in_err-make_room-clause-err c =
    on_err c.from_residual.result
    (same_station c.self.inside.node c.self.inside.node (map seen c.make_room.new.lanes) (map seen c.self.inside.lanes) refl
    c.in_err-make_room.ensures.same
    ∙ c.self.view_is)

pub put_sends-requires : goal.put_sends-requires
put_sends-requires c =
    let n = c.self.inside.node in
    subst (λ (outs : List Out). HaveRoomFor outs c.make_room.new.lanes) (sym c.as_slice.ensures)
    (room_enough c.in-Ok.step.outs c.make_room.new.lanes c.in_ok-make_room.ensures.room
    (c.lanes_get_few.ensures n.net (view_in n) n.me (session_in n) c.args.input.now
    (effect_in c.in-Ok.step c.step.new.self) c.in-Ok.ensures.taken))

pub keep_room-requires : goal.keep_room-requires
keep_room-requires c =
    subst (λ (outs : List Out). HaveRoomBut outs c.put_sends.new.lanes) (c.as_slice.ensures ∙ sym c.as_slice-in-Ok.ensures)
    (room_but c.as_slice.result.now c.make_room.new.lanes c.put_sends.new.lanes c.in_ok-make_room.ensures.room
    c.put_sends.ensures)

pub invariant_of-self-in-Ok : goal.invariant_of-self-in-Ok
invariant_of-self-in-Ok c =
    λ known. tested c.keep_room.result c.keep_room.ensures.room (sym c.is_ok-self-inside.ensures.value ∙ known)

pub returns-in-Ok-clause-taken : goal.returns-in-Ok-clause-taken
returns-in-Ok-clause-taken c =
    let t : Station = record { node = c.self.inside.node; lanes = map seen c.self.inside.lanes } in
    let u : Station = record { node = c.step.new.self; lanes = map seen c.keep_room.new.lanes } in
    subst (λ (s : Station). HasTaken s c.args.input.now c.in-Ok.step u) c.self.view_is
    (subst (λ (ls : List Lane). HasTaken t c.args.input.now c.in-Ok.step (station c.step.new.self ls))
    (sym c.keep_room.ensures.same)
    (station_taken t c.args.input.now c.in-Ok.step c.step.new.self c.make_room.new.lanes c.put_sends.new.lanes
    c.in_ok-make_room.ensures.same c.in-Ok.ensures.taken c.in-Ok.ensures.kept c.step.ensures.net c.step.ensures.me
    (subst (λ (outs : List Out). HaveMore outs c.make_room.new.lanes c.put_sends.new.lanes) c.as_slice.ensures
    c.put_sends.ensures)))

pub returns-in-Err-clause-refused : goal.returns-in-Err-clause-refused
returns-in-Err-clause-refused c =
    let t : Station = record { node = c.self.inside.node; lanes = map seen c.self.inside.lanes } in
    subst (λ (s : Station). IsInputDue s c.args.input.now c.refusal.result) c.self.view_is
    (refused_due t c.args.input.now c.in-Err.fault c.refusal.result c.refusal.ensures c.in-Err.ensures.refused)

pub returns-in-Err-clause-err : goal.returns-in-Err-clause-err
returns-in-Err-clause-err c =
    same_station c.step.new.self c.self.inside.node (map seen c.make_room.new.lanes) (map seen c.self.inside.lanes)
    c.in-Err.ensures.err c.in_ok-make_room.ensures.same
    ∙ c.self.view_is
