use Rattle.std.proofs.Math.Dec.{eqb}
use Rattle.std.proofs.Common.{ap, sym, ◌∙◌}
use Rattle.lemmas.proofs.Numbers.{number_itself, number_tells}
use Rattle.owner_rows.specs.Stations.{IsStationRow, station_with}
use Rattle.owner_rows.specs.Subjects.{station_in}
use Rattle.owner_rows.specs.Tables.{row_in}
use Rattle.owner_rows.proofs.StationTelling.{station_quiet, station_told}
use Rattle.owner_rows.proofs.Rows.{rows_stay, rows_told}
use Rattle.owner_rows.proofs.stations.tell_station.Goals as goal

pub returns-in-Some : goal.returns-in-Some
returns-in-Some c kept room h =
    rows_told eqb number_tells number_itself IsStationRow station_in station_quiet kept c.args.e.now (row_in c.args.stations.now) h
    (c.in-Some.w, c.in-Some.n) c.after.result (row_in c.put.new.self) (sym c.station_key.ensures ∙ c.in-Some.is) room
    (λ short subject. station_told _ c.args.e.now.body c.in-Some.n _ c.after.result (h c.in-Some.w c.in-Some.n)
    (c.after.ensures ∙ ap (station_with c.args.e.now.body) c.row-row.ensures)) c.put.ensures

pub returns-in_default : goal.returns-in_default
returns-in_default c kept room h =
    rows_stay eqb number_tells number_itself IsStationRow station_in station_quiet kept c.args.e.now (row_in c.args.stations.now) h
    (sym c.station_key.ensures ∙ c.in_default.is)
