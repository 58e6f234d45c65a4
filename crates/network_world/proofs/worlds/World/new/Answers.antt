use Rattle.network_world.proofs.Beginning.{new_is_world, new_world}
use Rattle.network_world.proofs.worlds.World.new.Goals as goal

pub invariant_of-result : goal.invariant_of-result
invariant_of-result c = new_is_world c.args.net c.in_ok-stations.stations _ c.in_ok-stations.ensures c.new-journal.ensures

pub returns-clause-empty : goal.returns-clause-empty
returns-clause-empty c = new_world c.args.net c.in_ok-stations.stations _ c.in_ok-stations.ensures c.new-journal.ensures
