use Rattle.std.proofs.Common.{map, subst}
use Rattle.network_world.specs.Lanes.{seen}
use Rattle.network_world.specs.Stations.{Station}
use Rattle.network_world.specs.Moves.{GoesOn, stop}
use Rattle.network_world.proofs.Stopped.{station_restarted}
use Rattle.network_world.proofs.stations.Station.restart.Goals as goal

pub returns : goal.returns
returns c =
    let t : Station = record { node = c.self.inside.node; lanes = map seen c.self.inside.lanes } in
    subst (λ (s : Station). GoesOn stop s (record { node = c.restart.new.self; lanes = map seen c.self.inside.lanes }))
    c.self.view_is
    (station_restarted t c.restart.new.self c.restart.ensures.session c.restart.ensures.kept c.restart.ensures.net
    c.restart.ensures.me)
