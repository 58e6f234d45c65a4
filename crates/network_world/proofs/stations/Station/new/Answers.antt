use Rattle.std.proofs.Common.{[], refl}
use Rattle.network_world.proofs.Beginning.{nothing_restores}
use Rattle.network_world.proofs.Stopped.{station_new}
use Rattle.network_world.proofs.stations.Station.new.Goals as goal

pub restored-requires : goal.restored-requires
restored-requires c = nothing_restores c.args.net.now c.args.w [] refl c.requires

pub returns : goal.returns
returns c =
    station_new c.args.net.now c.args.w c.in_ok-node.node c.in_ok-lanes.lanes c.count.result c.in_ok-node.ensures
    c.in_ok-lanes.ensures c.count.ensures.value
