-- What the row of a workstation tells of its events.
use Rattle.std.specs.Prelude.{ℕ, ◌≡◌, List, cond, nat_lt, option_and_then, unwrap_or}
use Rattle.model.specs.Types.{Body}
use Rattle.model.specs.Facts.{fence, fence_in, is_stopped, limit, limit_in, now, obeyed_command, reading, stop_in}
use Rattle.model.specs.NewPlan.{last_run, run_of}
use Rattle.owner_rows.specs.declared.stations.StationRow.{StationRow}

-- the row tells these events; there is one, that of 0
pub record TellsStation (events : List Body) (r : StationRow) : Type 0 where
  pub clock : r.clock ≡ now events
  pub fence : r.fence ≡ fence events
  pub limit : r.limit ≡ limit events
  pub stopped : r.stopped ≡ is_stopped events
  pub run : r.run ≡ last_run events

abbrev pub IsStationRow : List Body → ℕ → StationRow → Type 0
IsStationRow events n r = n ≡ 0 → TellsStation events r

-- the row after one more body
abbrev pub station_with : Body → StationRow → StationRow
station_with b r = record {
  clock = cond (nat_lt r.clock (unwrap_or (reading b) 0)) (unwrap_or (reading b) 0) r.clock;
  fence = unwrap_or (option_and_then fence_in (obeyed_command b)) r.fence;
  limit = unwrap_or (option_and_then limit_in (obeyed_command b)) r.limit;
  stopped = unwrap_or (option_and_then stop_in (obeyed_command b)) r.stopped;
  run = unwrap_or (run_of b) r.run;
}
