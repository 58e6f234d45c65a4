use Rattle.std.proofs.Common.{refl}
use Rattle.owner_rows.proofs.StationTelling.{station_of_none}
use Rattle.owner_rows.proofs.stations.StationRow.blank.Goals as goal

pub returns : goal.returns
returns c n = station_of_none n _ refl refl refl refl refl
