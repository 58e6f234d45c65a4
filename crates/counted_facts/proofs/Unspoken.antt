-- A body that does not speak of a job or a stream leaves what is told of it.
use Rattle.std.proofs.Common.{[], ℕ, ◌++◌, ◌∙◌, ◌∷◌, ◌≡◌, ◌≢◌, ◌⊎◌, Bool, List, None, Option, Some, ap, false}
use Rattle.std.proofs.Common.{inl, inr, option_map, refl, sym, true}
use Rattle.std.specs.Bool.{then_some}
use Rattle.std.specs.Option.{option_map_or, option_or}
use Rattle.std.specs.Prelude.{◌==◌, ◌||◌, filter_map}
use Rattle.lemmas.proofs.Booleans.{or_false, or_middles}
use Rattle.lemmas.proofs.Lists.{any_with}
use Rattle.model.specs.Types.{Added, Body, Canc, Cancel, Clock, Cmd, Cont, Declined, Ended, Failed, Fulfilled, Job, Late}
use Rattle.model.specs.Types.{Launched, Lost, NewPlan, Obeyed, Obj, Order, Released, Started, Stream, StreamEnded}
use Rattle.model.specs.Types.{StreamLimit, Suppr, UntilPassed}
use Rattle.model.specs.Words.{last_or}
use Rattle.model.specs.Equalities.{obj_eq}
use Rattle.model.specs.Facts.{commands, is_cancel_of, is_cancelled, is_cancelling, is_ended, is_good, is_released}
use Rattle.model.specs.Facts.{is_due, last_launch, launches, obeyed_command, reruns, stream_limit, stream_limit_in}
use Rattle.model.specs.Outcomes as model
use Rattle.owner_rows.specs.Jobs.{IsJobRow, LastTold, kept_last, last_told}
use Rattle.owner_rows.specs.Objects.{cancels}
use Rattle.owner_rows.specs.Outcomes.{told_outcome}
use Rattle.owner_rows.specs.Streams.{IsStreamRow}
use Rattle.owner_rows.specs.Subjects.{job_in, stream_in}
use Rattle.owner_rows.specs.declared.jobs.JobRow.{JobRow}
use Rattle.owner_rows.specs.declared.jobs.Last.{Last}
use Rattle.owner_rows.specs.declared.launches.Outcome.{Outcome}
use Rattle.owner_rows.specs.declared.launches.Outcome.TheVariants.{EndedBad, EndedGood, Failed as FailedOne, Lost as LostOne}
use Rattle.owner_rows.specs.declared.streams.StreamRow.{StreamRow}
use Rattle.owner_rows.proofs.Further.{any_command_with, apart}
use Rattle.owner_rows.proofs.JobFacts.{good_told}
use Rattle.owner_rows.proofs.JobTelling.{job_quiet}
use Rattle.owner_rows.proofs.StreamTelling.{stream_quiet}
use Rattle.counted_facts.specs.Facts.{is_done, stream_told}
use Rattle.counted_facts.specs.Subjects.{job_of_object, job_told_in, stream_of_object, stream_told_in}

-- a row of a job
row_outcome : Option model.Outcome → Option Outcome
row_outcome None = None
row_outcome (Some model.Outcome.EndedGood) = Some EndedGood
row_outcome (Some model.Outcome.EndedBad) = Some EndedBad
row_outcome (Some model.Outcome.Failed) = Some FailedOne
row_outcome (Some model.Outcome.Lost) = Some LostOne

outcome_kept : (o : Option model.Outcome) → told_outcome (row_outcome o) ≡ o
unfolding row_outcome
outcome_kept None = refl
outcome_kept (Some model.Outcome.EndedGood) = refl
outcome_kept (Some model.Outcome.EndedBad) = refl
outcome_kept (Some model.Outcome.Failed) = refl
outcome_kept (Some model.Outcome.Lost) = refl

abbrev last_row : LastTold → Last
last_row t = record {
  number = t.number;
  ended = row_outcome t.ended;
  code = t.code;
  started = t.started;
  confirmed = t.confirmed;
}

last_kept : (o : Option LastTold) → option_map kept_last (option_map last_row o) ≡ o
last_kept None = refl
last_kept (Some t) = λ i. Some (record {
  number = t.number;
  ended = outcome_kept t.ended i;
  code = t.code;
  started = t.started;
  confirmed = t.confirmed;
})

abbrev job_row : ℕ → List Body → JobRow
job_row j events = record {
  launches = launches j events;
  reruns = reruns j events;
  last = option_map last_row (last_told j events);
}

job_row_told : (j : ℕ) (events : List Body) → IsJobRow events j (job_row j events)
job_row_told j events = record { launches = refl; reruns = refl; last = last_kept (last_told j events) }

good_stays : (events : List Body) (b : Body) (j : ℕ) → job_in b ≢ Some j → is_good j (events ++ b ∷ []) ≡ is_good j events
good_stays events b j h =
    sym (good_told (events ++ b ∷ []) j (job_row j events)
    (job_quiet events b j (job_row j events) h (job_row_told j events)))
    ∙ good_told events j (job_row j events) (job_row_told j events)

-- what is cancelled
cancelled_with : (o : Obj) (events : List Body) (b : Body)
    → is_cancelled o (events ++ b ∷ []) ≡ (is_cancelled o events || cancels o b)
unfolding is_cancelled
cancelled_with o events b =
    rw (any_command_with (is_cancel_of o) events b, any_with (is_cancelling o) events b)
    (or_middles _ (option_map_or (is_cancel_of o) (obeyed_command b) false) _ (is_cancelling o b))

cancelled_stays : (o : Obj) (events : List Body) (b : Body) → cancels o b ≡ false
    → is_cancelled o (events ++ b ∷ []) ≡ is_cancelled o events
cancelled_stays o events b h =
    cancelled_with o events b ∙ ap (λ (t : Bool). is_cancelled o events || t) h ∙ or_false (is_cancelled o events)

other_job : (j : ℕ) (o : Obj) → job_of_object o ≢ Some j → obj_eq (Job j) o ≡ false
other_job j (Job k) h = apart j k h
other_job j (Stream s) h = refl

other_stream : (s : ℕ) (o : Obj) → stream_of_object o ≢ Some s → obj_eq (Stream s) o ≡ false
other_stream s (Job k) h = refl
other_stream s (Stream t) h = apart s t h

job_not_cancelled : (j : ℕ) (b : Body) → job_told_in b ≢ Some j → cancels (Job j) b ≡ false
job_not_cancelled j (UntilPassed o i Canc) h = other_job j o h
job_not_cancelled j (UntilPassed o i Cont) h = refl
job_not_cancelled j (UntilPassed o i Suppr) h = refl
job_not_cancelled j (Obeyed a k (Cancel o)) h = or_false (obj_eq (Job j) o) ∙ other_job j o h
job_not_cancelled j (Obeyed a k c) h = refl
job_not_cancelled j (NewPlan run cut carried docs) h = refl
job_not_cancelled j (Added a k doc) h = refl
job_not_cancelled j (Clock t) h = refl
job_not_cancelled j (Released s seen) h = refl
job_not_cancelled j (StreamEnded s seen) h = refl
job_not_cancelled j (Launched k n seen) h = refl
job_not_cancelled j (Started k n) h = refl
job_not_cancelled j (Failed k n) h = refl
job_not_cancelled j (Ended k n rc good) h = refl
job_not_cancelled j (Lost k n) h = refl
job_not_cancelled j (Fulfilled o i) h = refl
job_not_cancelled j (Declined a k why) h = refl
job_not_cancelled j (Order c) h = refl
job_not_cancelled j (Late o i) h = refl

stream_not_cancelled : (s : ℕ) (b : Body) → stream_told_in b ≢ Some s → cancels (Stream s) b ≡ false
stream_not_cancelled s (UntilPassed o i Canc) h = other_stream s o h
stream_not_cancelled s (UntilPassed o i Cont) h = refl
stream_not_cancelled s (UntilPassed o i Suppr) h = refl
stream_not_cancelled s (Obeyed a k (Cancel o)) h = or_false (obj_eq (Stream s) o) ∙ other_stream s o h
stream_not_cancelled s (Obeyed a k c) h = refl
stream_not_cancelled s (NewPlan run cut carried docs) h = refl
stream_not_cancelled s (Added a k doc) h = refl
stream_not_cancelled s (Clock t) h = refl
stream_not_cancelled s (Released t seen) h = refl
stream_not_cancelled s (StreamEnded t seen) h = refl
stream_not_cancelled s (Launched k n seen) h = refl
stream_not_cancelled s (Started k n) h = refl
stream_not_cancelled s (Failed k n) h = refl
stream_not_cancelled s (Ended k n rc good) h = refl
stream_not_cancelled s (Lost k n) h = refl
stream_not_cancelled s (Fulfilled o i) h = refl
stream_not_cancelled s (Declined a k why) h = refl
stream_not_cancelled s (Order c) h = refl
stream_not_cancelled s (Late o i) h = refl

-- whoever speaks of the row speaks of the job, and so of a stream
job_spoken : (b : Body) (j : ℕ) → job_in b ≡ Some j → job_told_in b ≡ Some j
job_spoken (UntilPassed o i mark) j e = cc
job_spoken (Obeyed a k (Cancel o)) j e = cc
job_spoken b j e = e

stream_spoken : (b : Body) (s : ℕ) → stream_in b ≡ Some s → stream_told_in b ≡ Some s
stream_spoken (UntilPassed o i mark) s e = cc
stream_spoken (Obeyed a k (Cancel o)) s e = cc
stream_spoken b s e = e

-- a job
pub done_stays : (events : List Body) (b : Body) (j : ℕ) → job_told_in b ≢ Some j
    → is_done j (events ++ b ∷ []) ≡ is_done j events
done_stays events b j h =
    rw (good_stays events b j (λ e. h (job_spoken b j e)), cancelled_stays (Job j) events b (job_not_cancelled j b h)) refl

-- the limit that was set, and what was written
limit_kinds : (s : ℕ) (c : Cmd)
    → (stream_limit_in s c ≡ None) ⊎ ((n : ℕ) × (stream_limit_in s c ≡ Some (Some n)))
limit_kinds s (StreamLimit t n) = go (s == t)
  where
    go : (b : Bool) → (then_some b (Some n) ≡ None) ⊎ ((m : ℕ) × (then_some b (Some n) ≡ Some (Some m)))
    go true = inr (n, refl)
    go false = inl refl
limit_kinds s c = inl refl

limit_law : (s : ℕ) (written before now : Option ℕ) (cs : List Cmd) → now ≡ option_or before written
    → last_or now (filter_map (stream_limit_in s) cs)
    ≡ option_or (last_or before (filter_map (stream_limit_in s) cs)) written
limit_law s written before now [] e = e
limit_law s written before now (c ∷ cs) e = elim (limit_kinds s c) [
  | inl k ↦ rw k (limit_law s written before now cs e)
  | inr k ↦ rw k.1 (limit_law s written (Some k.0) (Some k.0) cs refl)
]

pub limit_written : (s : ℕ) (written : Option ℕ) (events : List Body)
    → option_or (stream_limit s None events) written ≡ stream_limit s written events
unfolding stream_limit
limit_written s written events = sym (limit_law s written None written (commands events) refl)

no_other : (o : Option ℕ) → option_or o None ≡ o
no_other None = refl
no_other (Some n) = refl

pub limit_set : (s : ℕ) (set : Option ℕ) (events : List Body)
    → ((written : Option ℕ) → option_or set written ≡ stream_limit s written events) → set ≡ stream_limit s None events
limit_set s set events h = sym (no_other set) ∙ h None

-- a stream
abbrev stream_row : ℕ → List Body → StreamRow
stream_row s events = record {
  released = is_released s events;
  ended = is_ended s events;
  limit = stream_limit s None events;
}

stream_row_told : (s : ℕ) (events : List Body) → IsStreamRow events s (stream_row s events)
stream_row_told s events =
    record { released = refl; ended = refl; limit = λ written. limit_written s written events }

pub told_stays : (events : List Body) (b : Body) (s : ℕ) → stream_told_in b ≢ Some s
    → stream_told s (events ++ b ∷ []) ≡ stream_told s events
told_stays events b s h =
    let row : IsStreamRow (events ++ b ∷ []) s (stream_row s events) =
    stream_quiet events b s (stream_row s events) (λ e. h (stream_spoken b s e)) (stream_row_told s events) in
    λ i. record {
      released = sym row.released i;
      ended = sym row.ended i;
      cancelled = cancelled_stays (Stream s) events b (stream_not_cancelled s b h) i;
      limit = sym (limit_set s (stream_limit s None events) (events ++ b ∷ []) row.limit) i;
    }

-- no events tell of a job
pub nothing_done : (j : ℕ) → false ≡ is_done j []
unfolding is_good is_cancelled is_due commands last_launch launches reruns
nothing_done j = refl
