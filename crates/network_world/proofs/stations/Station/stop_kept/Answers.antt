use Rattle.std.proofs.Common.{◌∙◌, map, refl, subst, true}
use Rattle.network_world.specs.Lanes.{seen}
use Rattle.network_world.specs.Stations.{Station}
use Rattle.network_world.specs.Moves.{HasStopped, IsInputDue}
use Rattle.network_world.proofs.Stopped.{refused_due, same_station, station_stopped}
use Rattle.network_world.proofs.stations.Station.stop_kept.Goals as goal

pub returns-in-Ok-clause-stopped : goal.returns-in-Ok-clause-stopped
returns-in-Ok-clause-stopped c =
    let t : Station = record { node = c.self.inside.node; lanes = map seen c.self.inside.lanes } in
    let u : Station = record { node = c.restart.new.self; lanes = map seen c.self.inside.lanes } in
    subst (λ (s : Station). HasStopped s c.args.input.now true c.in-Ok.step.kept u) c.self.view_is
    (station_stopped t c.args.input.now c.in-Ok.step c.step.new.self c.restart.new.self c.in-Ok.ensures.taken
    c.in-Ok.ensures.kept c.step.ensures.net c.step.ensures.me c.restart.ensures.session c.restart.ensures.kept
    c.restart.ensures.net c.restart.ensures.me)

pub returns-in-Err-clause-refused : goal.returns-in-Err-clause-refused
returns-in-Err-clause-refused c =
    let t : Station = record { node = c.self.inside.node; lanes = map seen c.self.inside.lanes } in
    subst (λ (s : Station). IsInputDue s c.args.input.now c.refusal.result) c.self.view_is
    (refused_due t c.args.input.now c.in-Err.fault c.refusal.result c.refusal.ensures c.in-Err.ensures.refused)

pub returns-in-Err-clause-err : goal.returns-in-Err-clause-err
returns-in-Err-clause-err c =
    same_station c.step.new.self c.self.inside.node (map seen c.self.inside.lanes) (map seen c.self.inside.lanes)
    c.in-Err.ensures.err refl
    ∙ c.self.view_is
