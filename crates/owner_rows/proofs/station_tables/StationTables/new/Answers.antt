use Rattle.owner_rows.proofs.Nothing.{stations_of_none}
use Rattle.owner_rows.proofs.station_tables.StationTables.new.Goals as goal

pub returns : goal.returns
returns c =
    stations_of_none _ _ c.blank.ensures c.new.ensures c.new-2.ensures c.new-3.ensures c.new-4.ensures c.new-5.ensures
    c.new-6.ensures
