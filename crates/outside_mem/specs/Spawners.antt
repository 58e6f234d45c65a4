-- What a spawner in memory holds, and what its calls do.
use Rattle.std.specs.Prelude.{◌+◌, ◌&&◌, not, nat_lt, ℕ, Bool, true, false, List, length, map, slice_get, if◌then◌else◌, Result, is_err, Some, None}
use Rattle.std.specs.declared.option.Option.{Option}
use Rattle.std.specs.Option.{option_flatten}
use Rattle.base_types.specs.declared.Work.{Work}
use Rattle.base_types.specs.declared.Work.TheVariants.{Command, Script}
use Rattle.outside.specs.Calls.{StartCall, SpawnerCalls}
use Rattle.outside.specs.declared.Failed.{Failed}
use Rattle.outside.specs.declared.spawners.End.{End}
use Rattle.outside_mem.specs.declared.spawners.Started.{Started}
use Rattle.outside_mem.specs.declared.spawners.Killed.{Killed}
use Rattle.outside_mem.specs.Memory.{CallCount, after_call, is_next_listed}
use Rattle.outside_mem.specs.Rooms.{Stored, Logged, fits, with_row, with_none, with_item, told_of}

-- the answers that its polls give, how many it gave, what it keeps of its calls, and which calls fail
pub record SpawnerState : Type 0 where
  pub answers : List (Option End)
  pub at : ℕ
  pub started : Stored Started
  pub killed : Logged Killed
  pub reported : Logged (Result (Option End) Failed)
  pub calls : CallCount

abbrev pub text_of : Work → List ℕ
text_of (Command text) = text
text_of (Script text) = text

abbrev pub is_script : Work → Bool
is_script (Command text) = false
is_script (Script text) = true

-- a start that is kept, as a call
abbrev pub start_of : Started × List ℕ → StartCall
start_of row = record {
  job = row.0.job;
  number = row.0.number;
  work = if row.0.script then Script row.1 else Command row.1;
  ok = row.0.ok;
}

-- the calls that it tells
abbrev pub calls_of : SpawnerState → SpawnerCalls
calls_of spawner = record {
  started = if spawner.started.whole then Some (map start_of spawner.started.rows) else None;
  killed = if spawner.killed.whole then Some (map (λ k. (k.job, k.number)) spawner.killed.items) else None;
  reported = told_of spawner.reported;
}

-- a start is kept where there is room
abbrev pub after_start : ℕ → ℕ → Work → SpawnerState → SpawnerState
after_start job number work spawner =
    let room = fits (length (text_of work)) spawner.started in
    let ok = not (is_next_listed spawner.calls) in
    record {
      answers = spawner.answers;
      at = spawner.at;
      started = if room then with_row (record { job = job; number = number; script = is_script work; ok = ok }) (text_of work) spawner.started else with_none spawner.started;
      killed = spawner.killed;
      reported = spawner.reported;
      calls = after_call (not (room && ok)) spawner.calls;
    }

-- the answer that comes next, or none
abbrev pub answer_of : SpawnerState → Option End
answer_of spawner = option_flatten (slice_get spawner.answers spawner.at)

-- a poll that fails takes no answer
abbrev pub after_poll : Result (Option End) Failed → SpawnerState → SpawnerState
after_poll result spawner = record {
  answers = spawner.answers;
  at = if nat_lt spawner.at (length spawner.answers) && not (is_err result) then spawner.at + 1 else spawner.at;
  started = spawner.started;
  killed = spawner.killed;
  reported = with_item result spawner.reported;
  calls = after_call (is_err result) spawner.calls;
}

abbrev pub after_kill : ℕ → ℕ → SpawnerState → SpawnerState
after_kill job number spawner = record {
  answers = spawner.answers;
  at = spawner.at;
  started = spawner.started;
  killed = with_item (record { job = job; number = number }) spawner.killed;
  reported = spawner.reported;
  calls = spawner.calls;
}
