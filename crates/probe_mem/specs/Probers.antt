-- What a prober in memory holds, and what a call leaves.
use Rattle.std.specs.Prelude.{if◌then◌else◌, ℕ, ◌+◌, Bool, Err, List, None, Ok, Option, Result, Some, false, is_err, true}
use Rattle.std.specs.Prelude.{length, map, nat_lt, slice_get, unwrap_or}
use Rattle.outside.specs.declared.Failed.{Failed}
use Rattle.outside.specs.Causes.{one_more}
use Rattle.outside_mem.specs.Rooms.{Stored, fits, with_none, with_row}
use Rattle.file_watch.specs.Asked.{Probe}

-- the answers that its calls give, how many it gave, what it keeps of its calls, and how many failed
pub record ProberState : Type 0 where
  pub answers : List (Result Bool Failed)
  pub at : ℕ
  pub asked : Stored (Result Bool Failed)
  pub faults : ℕ

-- a call that is kept
abbrev pub probe_of : Result Bool Failed × List ℕ → Probe
probe_of row = record { path = row.1; answer = row.0 }

-- the calls that it tells
abbrev pub asked_by : ProberState → Option (List Probe)
asked_by prober = if prober.asked.whole then Some (map probe_of prober.asked.rows) else None

-- the answer that comes next: the listed one, and else that no file is there
abbrev pub answer_of : ProberState → Result Bool Failed
answer_of prober = unwrap_or (slice_get prober.answers prober.at) (Ok false)

-- with these calls, and one fault more where the call failed
abbrev pub with_calls : ProberState → ℕ → Stored (Result Bool Failed) → Bool → ProberState
with_calls prober at asked failed = record {
  answers = prober.answers;
  at = at;
  asked = asked;
  faults = if failed then one_more prober.faults else prober.faults;
}

-- A call that passes the room is not kept, fails, and takes no answer. Any other takes the next answer, and is kept.
abbrev pub after_call : List ℕ → ProberState → ProberState
after_call path prober =
    if fits (length path) prober.asked
    then with_calls prober
    (if nat_lt prober.at (length prober.answers) then prober.at + 1 else prober.at)
    (with_row (answer_of prober) path prober.asked) (is_err (answer_of prober))
    else with_calls prober prober.at (with_none prober.asked) true
