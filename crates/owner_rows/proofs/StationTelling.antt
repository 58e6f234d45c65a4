-- What is told of a workstation, one body further.
use Rattle.std.proofs.Common.{[], ℕ, ◌++◌, ◌∙◌, ◌∷◌, ◌≡◌, ◌≢◌, List, Some, ap, arith, false, refl, subst, sym}
use Rattle.std.specs.Prelude.{unwrap_or}
use Rattle.model.specs.Types.{AddDep, Added, AltPri, Body, Cancel, Clock, Cmd, Confirm, Declined, DelDep, Ended, Failed}
use Rattle.model.specs.Types.{Fence, Fulfilled, Kill, Launched, Limit, Lost, NewPlan, Obeyed, Order, Release, Released}
use Rattle.model.specs.Types.{ReplyGlobal, ReplyOwn, Rerun, Started, Stop, StreamEnded, StreamLimit, Submit, SwitchMgr}
use Rattle.model.specs.Types.{Late, Total, UntilPassed}
use Rattle.model.specs.Facts.{commands, fence, fence_in, is_stopped, limit, limit_in, now, reading, stop_in}
use Rattle.model.specs.Facts.{obeyed_command}
use Rattle.model.specs.NewPlan.{last_run, run_of}
use Rattle.owner_rows.specs.Stations.{IsStationRow, TellsStation, station_with}
use Rattle.owner_rows.specs.Subjects.{station_in}
use Rattle.owner_rows.specs.declared.stations.StationRow.{StationRow}
use Rattle.owner_rows.proofs.Further.{greatest_more, larger, last_set_with, last_with_body}
use Rattle.std.proofs.Common.{option_and_then}

station_further : (events : List Body) (b : Body) (r : StationRow) → TellsStation events r
    → TellsStation (events ++ b ∷ []) (station_with b r)
unfolding now fence limit is_stopped last_run
station_further events b r h = record {
  clock = ap (λ n. larger n (unwrap_or (reading b) 0)) h.clock ∙ sym (greatest_more reading events b);
  fence = ap (unwrap_or (option_and_then fence_in (obeyed_command b))) h.fence ∙ sym (last_set_with fence_in 0 events b);
  limit = ap (unwrap_or (option_and_then limit_in (obeyed_command b))) h.limit ∙ sym (last_set_with limit_in 10 events b);
  stopped =
      ap (unwrap_or (option_and_then stop_in (obeyed_command b))) h.stopped ∙ sym (last_set_with stop_in false events b);
  run = ap (unwrap_or (run_of b)) h.run ∙ sym (last_with_body run_of 0 events b);
}

pub station_told : (events : List Body) (b : Body) (n : ℕ) (r new : StationRow) → IsStationRow events n r
    → new ≡ station_with b r → IsStationRow (events ++ b ∷ []) n new
station_told events b n r new h e z =
    subst (TellsStation (events ++ b ∷ [])) (sym e) (station_further events b r (h z))

same_clock : (r : StationRow) → r ≡ record {
  clock = larger r.clock 0;
  fence = r.fence;
  limit = r.limit;
  stopped = r.stopped;
  run = r.run;
}
same_clock r = λ i. record {
  clock = go r.clock i;
  fence = r.fence;
  limit = r.limit;
  stopped = r.stopped;
  run = r.run;
}
  where
    go : (n : ℕ) → n ≡ larger n 0
    go n = grind arith

-- what does not speak of the workstation leaves its row
stays : (b : Body) (r : StationRow) → station_in b ≢ Some 0 → r ≡ station_with b r
stays (Clock t) r h = absurd (h refl)
stays (Obeyed a k (Fence p)) r h = absurd (h refl)
stays (Obeyed a k (Limit p)) r h = absurd (h refl)
stays (Obeyed a k Cmd.Start) r h = absurd (h refl)
stays (Obeyed a k Stop) r h = absurd (h refl)
stays (Obeyed a k (AddDep o d)) r h = same_clock r
stays (Obeyed a k (DelDep o i)) r h = same_clock r
stays (Obeyed a k (Release o)) r h = same_clock r
stays (Obeyed a k (AltPri o p)) r h = same_clock r
stays (Obeyed a k (Cancel o)) r h = same_clock r
stays (Obeyed a k (Confirm j)) r h = same_clock r
stays (Obeyed a k (Kill j)) r h = same_clock r
stays (Obeyed a k (Rerun j)) r h = same_clock r
stays (Obeyed a k (StreamLimit s n)) r h = same_clock r
stays (Obeyed a k (Total q n)) r h = same_clock r
stays (Obeyed a k (ReplyGlobal p yes_)) r h = same_clock r
stays (Obeyed a k (ReplyOwn o i yes_)) r h = same_clock r
stays (Obeyed a k (Submit d)) r h = same_clock r
stays (Obeyed a k (SwitchMgr w)) r h = same_clock r
stays (NewPlan run cut carried docs) r h = absurd (h refl)
stays (Late o i) r h = same_clock r
stays (Added a k doc) r h = same_clock r
stays (Released s seen) r h = same_clock r
stays (StreamEnded s seen) r h = same_clock r
stays (UntilPassed p i mark) r h = same_clock r
stays (Launched j n seen) r h = same_clock r
stays (Started j n) r h = same_clock r
stays (Failed j n) r h = same_clock r
stays (Ended j n rc good) r h = same_clock r
stays (Lost j n) r h = same_clock r
stays (Fulfilled p i) r h = same_clock r
stays (Declined a k why) r h = same_clock r
stays (Order c) r h = same_clock r

pub station_quiet : (events : List Body) (b : Body) (n : ℕ) (r : StationRow) → station_in b ≢ Some n
    → IsStationRow events n r → IsStationRow (events ++ b ∷ []) n r
station_quiet events b n r h row z =
    station_told events b n r r row (stays b r (λ s. h (s ∙ ap Some (sym z)))) z

-- no events
pub station_of_none : (n : ℕ) (r : StationRow) → r.clock ≡ 0 → r.fence ≡ 0 → r.limit ≡ 10 → r.stopped ≡ false → r.run ≡ 0
    → IsStationRow [] n r
unfolding now fence limit is_stopped last_run commands
station_of_none n r e f g k l z = record { clock = e; fence = f; limit = g; stopped = k; run = l }
