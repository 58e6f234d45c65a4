-- What the row of a job tells of the events of one workstation.
use Rattle.std.specs.Bool.{then_some}
use Rattle.std.specs.List.{list_any}
use Rattle.std.specs.Option.{option_map_or, option_or}
use Rattle.std.specs.Prelude.{ℕ, ℤ, ◌&&◌, ◌==◌, ◌||◌, ◌≡◌, Bool, List, None, Option, false, is_none, nat_le, not}
use Rattle.std.specs.Prelude.{filter_map, option_and_then, option_map, slice_get}
use Rattle.model.specs.Types.{Body, Launched}
use Rattle.model.specs.Facts.{LastLaunch, code_of, commands, end_of, first_end, is_confirm_of, is_good_end, is_rerun_of}
use Rattle.model.specs.Facts.{is_start_of}
use Rattle.model.specs.Facts.{last_launch, launches, obeyed_command, reruns}
use Rattle.model.specs.Outcomes as model
use Rattle.owner_rows.specs.Outcomes.{told_outcome}
use Rattle.owner_rows.specs.declared.jobs.JobRow.{JobRow}
use Rattle.owner_rows.specs.declared.jobs.Last.{Last}

-- a body has a command that reruns job j
abbrev pub is_rerun_in : ℕ → Body → Bool
is_rerun_in j b = option_map_or (is_rerun_of j) (obeyed_command b) false

-- a body has a command that confirms job j
abbrev pub is_confirm_in : ℕ → Body → Bool
is_confirm_in j b = option_map_or (is_confirm_of j) (obeyed_command b) false

-- the last launch of a job, and what was told of it
pub record LastTold : Type 0 where
  pub number : ℕ
  pub ended : Option model.Outcome
  pub code : Option (Option ℤ)
  pub started : Bool
  pub confirmed : Bool

abbrev pub told_of : ℕ → LastLaunch → LastTold
told_of j l = record {
  number = l.number;
  ended = first_end j l.number l.later;
  code = slice_get (filter_map (code_of j l.number) l.later) 0;
  started = list_any (is_start_of j l.number) l.later;
  confirmed = list_any (is_confirm_of j) (commands l.later);
}

-- that of job j
abbrev pub last_told : ℕ → List Body → Option LastTold
last_told j events = option_map (told_of j) (last_launch j events)

-- one body further
abbrev pub told_with : ℕ → Body → LastTold → LastTold
told_with j b l = record {
  number = l.number;
  ended = option_or l.ended (end_of j l.number b);
  code = option_or l.code (code_of j l.number b);
  started = l.started || is_start_of j l.number b;
  confirmed = l.confirmed || is_confirm_in j b;
}

-- the launch that a body is
abbrev pub fresh_in : ℕ → Body → Option LastTold
fresh_in j (Launched k n seen) =
    then_some (j == k) (record { number = n; ended = None; code = None; started = false; confirmed = false })
fresh_in j _ = None

abbrev pub last_with : ℕ → Body → Option LastTold → Option LastTold
last_with j b o = option_or (fresh_in j b) (option_map (told_with j b) o)

-- what a row keeps
abbrev pub kept_last : Last → LastTold
kept_last l = record {
  number = l.number;
  ended = told_outcome l.ended;
  code = l.code;
  started = l.started;
  confirmed = l.confirmed;
}

-- the row of job j tells these events
pub record IsJobRow (events : List Body) (j : ℕ) (r : JobRow) : Type 0 where
  pub launches : r.launches ≡ launches j events
  pub reruns : r.reruns ≡ reruns j events
  pub last : option_map kept_last r.last ≡ last_told j events

-- what a row says of the job
abbrev pub due_in : JobRow → Bool
due_in r = nat_le r.launches r.reruns

abbrev pub outcome_in : Option LastTold → Option model.Outcome
outcome_in o = option_and_then (λ (l : LastTold). l.ended) o

abbrev pub end_in : Option LastTold → Option ℤ
end_in o = option_and_then (λ (l : LastTold). option_and_then (λ (c : Option ℤ). c) l.code) o

abbrev pub started_in : Option LastTold → Bool
started_in o = option_map_or (λ (l : LastTold). l.started) o false

abbrev pub open_in : Option LastTold → Option ℕ
open_in o = option_and_then (λ (l : LastTold). then_some (is_none l.ended) l.number) o

abbrev pub good_last : LastTold → Bool
good_last l = not (is_none l.ended) && (is_good_end l.ended || l.confirmed)

abbrev pub good_in : JobRow → Bool
good_in r = not (due_in r) && option_map_or good_last (option_map kept_last r.last) false
