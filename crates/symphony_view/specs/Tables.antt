-- The tables of states as choices one after the other.
use Rattle.std.specs.Prelude.{[], if◌then◌else◌, ◌||◌, ◌∷◌, None, Option, Some, nat_le, not, unwrap_or}
use Rattle.std.specs.List.{list_any}
use Rattle.model.specs.Types.{Events, Job, Net, Stream, StreamDoc}
use Rattle.model.specs.Words.{first_of_these}
use Rattle.model.specs.History.{View}
use Rattle.model.specs.Catalogue.{StreamJob}
use Rattle.model.specs.Outcomes.{Outcome}
use Rattle.model.specs.Facts.{fence, is_cancelled, is_due, is_ended, is_good, is_last_started, is_open, is_released}
use Rattle.model.specs.Facts.{last_outcome}
use Rattle.model.specs.Dependencies.{all_satisfied}
use Rattle.model.specs.Readiness.{job_priority}
use Rattle.model.specs.States.{JobState, StreamState, is_bad_state, is_hold_state, is_running_state, states_of}

-- the last lines of a job's table, where no launch decides
abbrev pub state_of_waiting : Net → View → StreamJob → JobState
state_of_waiting net V p =
    let events = V (Events p.doc.ws) in
    let streams_events = V (Events p.parent.ws) in
    unwrap_or
    (first_of_these
    ((is_cancelled (Job p.doc.no) events || is_cancelled (Stream p.parent.no) streams_events, JobState.Cancel)
    ∷ (
      not (is_released p.parent.no streams_events)
          || not (all_satisfied net V p.doc.ws (Job p.doc.no)),
      JobState.Hold,
    )
    ∷ (nat_le (job_priority V p) (fence events), JobState.Fence)
    ∷ []))
    JobState.Ready

-- how the last launch ended, or else what the job waits for
abbrev pub ended_or : Option Outcome → JobState → JobState
ended_or None waiting = waiting
ended_or (Some Outcome.Failed) waiting = JobState.Fail
ended_or (Some Outcome.EndedGood) waiting = JobState.Abend
ended_or (Some Outcome.EndedBad) waiting = JobState.Abend
ended_or (Some Outcome.Lost) waiting = JobState.Abend

-- a job by its launches
abbrev pub state_of_launches : Net → View → StreamJob → JobState
state_of_launches net V p =
    if is_open p.doc.no (V (Events p.doc.ws))
    then (if is_last_started p.doc.no (V (Events p.doc.ws)) then JobState.Exec else JobState.Intro)
    else (if is_good p.doc.no (V (Events p.doc.ws))
    then JobState.Succ
    else (if is_due p.doc.no (V (Events p.doc.ws))
    then state_of_waiting net V p
    else ended_or (last_outcome p.doc.no (V (Events p.doc.ws))) (state_of_waiting net V p)))

-- a stream by what is told of it, and then by its jobs
abbrev pub state_of_planned : Net → View → StreamDoc → StreamState
state_of_planned net V d =
    if is_cancelled (Stream d.no) (V (Events d.ws)) then StreamState.Cancel
    else (if is_ended d.no (V (Events d.ws)) then StreamState.Succ
    else (if is_released d.no (V (Events d.ws))
    then (if list_any is_running_state (states_of net V d) then StreamState.Exec
    else (if list_any is_bad_state (states_of net V d)
    then (if list_any is_hold_state (states_of net V d) then StreamState.Stuck else StreamState.Abend)
    else StreamState.Exec))
    else (if all_satisfied net V d.ws (Stream d.no) then StreamState.Ready else StreamState.Hold)))
