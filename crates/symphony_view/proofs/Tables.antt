-- The tables of states are choices one after the other.
use Rattle.std.proofs.Common.{[], ◌&&◌, ◌∷◌, ◌≡◌, Bool, List, None, Option, Some, false, refl, true}
use Rattle.std.specs.List.{list_any}
use Rattle.std.specs.Prelude.{if◌then◌else◌, ◌||◌, nat_le, not, unwrap_or}
use Rattle.model.specs.Types.{Events, Job, Net, Stream, StreamDoc}
use Rattle.model.specs.Words.{first_of_these}
use Rattle.model.specs.History.{View}
use Rattle.model.specs.Catalogue.{StreamJob}
use Rattle.model.specs.Outcomes.{Outcome}
use Rattle.model.specs.Facts.{fence, is_cancelled, is_due, is_ended, is_good, is_last_started, is_open, is_released}
use Rattle.model.specs.Facts.{last_outcome}
use Rattle.model.specs.Dependencies.{all_satisfied}
use Rattle.model.specs.Readiness.{job_priority}
use Rattle.model.specs.States.{JobState, StreamState, is_bad_state, is_ended_or_lost, is_failed, is_hold_state}
use Rattle.model.specs.States.{is_running_state, job_state, states_of, stream_state}
use Rattle.symphony_view.specs.Tables.{ended_or, state_of_launches, state_of_planned}

launches_first : (open_ started good due : Bool) (outcome : Option Outcome) (rest : List (Bool × JobState))
    → unwrap_or (first_of_these
    ((open_ && started, JobState.Exec)
    ∷ (open_, JobState.Intro)
    ∷ (good, JobState.Succ)
    ∷ (not due && is_failed outcome, JobState.Fail)
    ∷ (not due && is_ended_or_lost outcome, JobState.Abend)
    ∷ rest)) JobState.Ready
    ≡ (if open_ then (if started then JobState.Exec else JobState.Intro)
    else (if good then JobState.Succ
    else (if due then unwrap_or (first_of_these rest) JobState.Ready
    else ended_or outcome (unwrap_or (first_of_these rest) JobState.Ready))))
launches_first true true good due outcome rest = refl
launches_first true false good due outcome rest = refl
launches_first false started true due outcome rest = refl
launches_first false started false true outcome rest = refl
launches_first false started false false None rest = refl
launches_first false started false false (Some Outcome.Failed) rest = refl
launches_first false started false false (Some Outcome.EndedGood) rest = refl
launches_first false started false false (Some Outcome.EndedBad) rest = refl
launches_first false started false false (Some Outcome.Lost) rest = refl

pub job_state_is : (net : Net) (V : View) (p : StreamJob) → job_state net V p ≡ state_of_launches net V p
unfolding job_state
job_state_is net V p =
    launches_first (is_open p.doc.no (V (Events p.doc.ws))) (is_last_started p.doc.no (V (Events p.doc.ws)))
    (is_good p.doc.no (V (Events p.doc.ws))) (is_due p.doc.no (V (Events p.doc.ws)))
    (last_outcome p.doc.no (V (Events p.doc.ws)))
    ((
      is_cancelled (Job p.doc.no) (V (Events p.doc.ws))
          || is_cancelled (Stream p.parent.no) (V (Events p.parent.ws)),
      JobState.Cancel,
    )
    ∷ (
      not (is_released p.parent.no (V (Events p.parent.ws)))
          || not (all_satisfied net V p.doc.ws (Job p.doc.no)),
      JobState.Hold,
    )
    ∷ (nat_le (job_priority V p) (fence (V (Events p.doc.ws))), JobState.Fence)
    ∷ [])

jobs_last : (cancelled ended released satisfied running bad held : Bool)
    → unwrap_or (first_of_these
    ((cancelled, StreamState.Cancel)
    ∷ (ended, StreamState.Succ)
    ∷ (not released && satisfied, StreamState.Ready)
    ∷ (not released, StreamState.Hold)
    ∷ (running, StreamState.Exec)
    ∷ (bad && not held, StreamState.Abend)
    ∷ (bad, StreamState.Stuck)
    ∷ [])) StreamState.Exec
    ≡ (if cancelled then StreamState.Cancel
    else (if ended then StreamState.Succ
    else (if released
    then (if running then StreamState.Exec
    else (if bad then (if held then StreamState.Stuck else StreamState.Abend) else StreamState.Exec))
    else (if satisfied then StreamState.Ready else StreamState.Hold))))
jobs_last true ended released satisfied running bad held = refl
jobs_last false true released satisfied running bad held = refl
jobs_last false false false true running bad held = refl
jobs_last false false false false running bad held = refl
jobs_last false false true satisfied true bad held = refl
jobs_last false false true satisfied false true true = refl
jobs_last false false true satisfied false true false = refl
jobs_last false false true satisfied false false held = refl

pub stream_state_is : (net : Net) (V : View) (d : StreamDoc) → stream_state net V d ≡ state_of_planned net V d
unfolding stream_state
stream_state_is net V d =
    jobs_last (is_cancelled (Stream d.no) (V (Events d.ws))) (is_ended d.no (V (Events d.ws)))
    (is_released d.no (V (Events d.ws))) (all_satisfied net V d.ws (Stream d.no))
    (list_any is_running_state (states_of net V d)) (list_any is_bad_state (states_of net V d))
    (list_any is_hold_state (states_of net V d))
