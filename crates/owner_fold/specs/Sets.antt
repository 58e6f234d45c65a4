-- Sets of the catalogue's streams and jobs, by their places in it.
use Rattle.std.specs.Prelude.{if◌then◌else◌, ℕ, ◌&&◌, ◌*◌, ◌-◌, ◌<◌, ◌==◌, ◌^◌, ◌≡◌, Bool, List, Option, Some, false, filter, not, slice_get}
use Rattle.std.specs.Prelude.{true}
use Rattle.grouped_places.specs.Codes.{code}
use Rattle.model.specs.Types.{AddDep, Body, Canc, Cancel, Dep, Ended, Entry, Events, Failed, Feed, Job, Launched, Lost, Obeyed, Obj}
use Rattle.model.specs.Types.{Orders, Released, Stream, StreamDoc, StreamEnded, UntilPassed}
use Rattle.model.specs.Words.{has}
use Rattle.model.specs.History.{View, list_of, view_of}
use Rattle.model.specs.Catalogue.{StreamJob, catalogue, jobs, members, streams_of}
use Rattle.model.specs.Facts.{is_cancelled, is_ended, is_open, is_released}
use Rattle.model.specs.StepFaults.{is_outside}
use Rattle.owner_fold.specs.Given.{given_job_by, given_stream_by, has_time}
use Rattle.owner_fold.specs.Numbers.{ArePlaces, place_of}
use Rattle.owner_fold.specs.declared.changes.Change.{Change}
use Rattle.owner_fold.specs.declared.changes.Change.TheVariants.{FileGiven, JobChange, NoChange, StreamChange, TimeGiven}
use Rattle.owner_fold.specs.declared.given_objects.GivenObjects.{GivenObjects}
use Rattle.owner_fold.specs.declared.numbers.Index.{Index}
use Rattle.owner_fold.specs.declared.sets.Sets.{Sets}

-- a stream that is neither released nor cancelled
abbrev pub is_waiting : ℕ → List Body → Bool
is_waiting s events = not (is_released s events) && not (is_cancelled (Stream s) events)

-- one that is released, and neither ended nor cancelled
abbrev pub is_begun : ℕ → List Body → Bool
is_begun s events = is_released s events && (not (is_ended s events) && not (is_cancelled (Stream s) events))

-- by the events of its workstation
abbrev pub waits_by : List Entry → StreamDoc → Bool
waits_by kept d = is_waiting d.no (list_of kept (Events d.ws))

abbrev pub began_by : List Entry → StreamDoc → Bool
began_by kept d = is_begun d.no (list_of kept (Events d.ws))

abbrev pub opened_by : List Entry → StreamJob → Bool
opened_by kept p = is_open p.doc.no (list_of kept (Events p.doc.ws))

-- the groups
abbrev pub station_of : StreamDoc → ℕ
station_of d = d.ws

abbrev pub job_station_of : StreamJob → ℕ
job_station_of p = p.doc.ws

abbrev pub job_stream_of : StreamJob → ℕ
job_stream_of p = p.parent.no

-- of the first n items each that counts has its place in its group
abbrev pub CoversBelow : {X : Type 0} → ℕ → (X → ℕ) → (X → Bool) → List X → List ℕ → Type 0
CoversBelow {X} n group counts items codes =
    (i : ℕ) (x : X) → i < n → slice_get items i ≡ Some x → counts x ≡ true
    → (i < 2 ^ 32) × (has codes (code (group x) i) ≡ true)

-- each that counts has
abbrev pub Covers : {X : Type 0} → (X → ℕ) → (X → Bool) → List X → List ℕ → Type 0
Covers {X} group counts items codes =
    (i : ℕ) (x : X) → slice_get items i ≡ Some x → counts x ≡ true
    → (i < 2 ^ 32) × (has codes (code (group x) i) ≡ true)

-- more places, and that of an item where it counts
pub record Further {X : Type 0} (group : X → ℕ) (counts : X → Bool) (place : ℕ) (item : Option X)
    (old new : List ℕ) : Type 0 where
  pub keeps : (c : ℕ) → has old c ≡ true → has new c ≡ true
  pub counted : (x : X) → item ≡ Some x → counts x ≡ true → (place < 2 ^ 32) × (has new (code (group x) place) ≡ true)

-- these sets have at least who was given a dependency of a kind
pub record AreGivenAmong (test : Dep → Bool) (kept : List Entry) (ms : List ℕ) (docs : List StreamDoc)
    (placed : List StreamJob) (given : GivenObjects) : Type 0 where
  pub streams : Covers station_of (given_stream_by test ms kept) docs given.streams
  pub jobs : Covers job_station_of (given_job_by test ms kept) placed given.jobs

-- the sets have at least what counts by these entries of these streams and jobs, with these members
pub record AreSetsAmong (kept : List Entry) (ms : List ℕ) (streams : List StreamDoc) (placed : List StreamJob)
    (sets : Sets) : Type 0 where
  pub waiting : Covers station_of (waits_by kept) streams sets.waiting
  pub begun : Covers station_of (began_by kept) streams sets.begun
  pub opened : Covers job_station_of (opened_by kept) placed sets.opened
  pub by_stream : Covers job_stream_of (λ p. true) placed sets.by_stream
  pub timed : AreGivenAmong has_time kept ms streams placed sets.timed
  pub filed : AreGivenAmong is_outside kept ms streams placed sets.filed

abbrev pub AreSetsOf : List Entry → Sets → Type 0
AreSetsOf kept sets =
    AreSetsAmong kept (members (view_of kept)) (catalogue (view_of kept)) (jobs (view_of kept)) sets

-- the stream or job of whom an entry of w tells what may change the sets, and whether it is its release or launch; or
-- who is given a dependency with a time or on a file
abbrev pub change_of_object : ℕ → Obj → Change
change_of_object w (Stream s) = StreamChange w s false
change_of_object w (Job j) = NoChange

abbrev pub change_of_dep : ℕ → Obj → Dep → Change
change_of_dep w o d = if has_time d then TimeGiven w o else (if is_outside d then FileGiven w o else NoChange)

abbrev pub change_by : ℕ → Body → Change
change_by w (Released s seen) = StreamChange w s true
change_by w (StreamEnded s seen) = StreamChange w s false
change_by w (UntilPassed o i Canc) = change_of_object w o
change_by w (Obeyed a k (Cancel o)) = change_of_object w o
change_by w (Obeyed a k (AddDep o d)) = change_of_dep w o d
change_by w (Launched j n seen) = JobChange w j true
change_by w (Failed j n) = JobChange w j false
change_by w (Ended j n rc good) = JobChange w j false
change_by w (Lost j n) = JobChange w j false
change_by w _ = NoChange

abbrev pub change_in : Body → Feed → Change
change_in b (Events w) = change_by w b
change_in b (Orders a w) = NoChange

-- no place is lost
pub record KeepsGiven (old new : GivenObjects) : Type 0 where
  pub streams : (c : ℕ) → has old.streams c ≡ true → has new.streams c ≡ true
  pub jobs : (c : ℕ) → has old.jobs c ≡ true → has new.jobs c ≡ true

-- nor by what is prepared for a change
pub record Prepared (old new : Sets) : Type 0 where
  pub waiting : new.waiting ≡ old.waiting
  pub begun : (c : ℕ) → has old.begun c ≡ true → has new.begun c ≡ true
  pub opened : (c : ℕ) → has old.opened c ≡ true → has new.opened c ≡ true
  pub by_stream : new.by_stream ≡ old.by_stream
  pub timed : KeepsGiven old.timed new.timed
  pub filed : KeepsGiven old.filed new.filed

-- and who is released, launched or given such a dependency has its place
abbrev pub HasPlace : ℕ → Option ℕ → List ℕ → Type 0
HasPlace w place codes = (i : ℕ) → place ≡ Some i → (i < 2 ^ 32) × (has codes (code w i) ≡ true)

abbrev pub HasGiven : Index → ℕ → Obj → GivenObjects → Type 0
HasGiven index w (Stream s) given =
    (numbers : List ℕ) → ArePlaces numbers index.streams → HasPlace w (place_of numbers s) given.streams
HasGiven index w (Job j) given =
    (numbers : List ℕ) → ArePlaces numbers index.jobs → HasPlace w (place_of numbers j) given.jobs

abbrev pub Begins : Index → Change → Sets → Type 0
Begins index (StreamChange w s begins) sets =
    begins ≡ true → (numbers : List ℕ) → ArePlaces numbers index.streams → HasPlace w (place_of numbers s) sets.begun
Begins index (JobChange w j begins) sets =
    begins ≡ true → (numbers : List ℕ) → ArePlaces numbers index.jobs → HasPlace w (place_of numbers j) sets.opened
Begins index (TimeGiven w o) sets = HasGiven index w o sets.timed
Begins index (FileGiven w o) sets = HasGiven index w o sets.filed
Begins index NoChange sets = Unit {0}

-- what stands at the place of a code of a group
abbrev pub stream_coded : List Entry → ℕ → ℕ → Option StreamDoc
stream_coded kept group c = slice_get (catalogue (view_of kept)) (c - group * 2 ^ 32)

abbrev pub job_coded : List Entry → ℕ → ℕ → Option StreamJob
job_coded kept group c = slice_get (jobs (view_of kept)) (c - group * 2 ^ 32)

-- a stream of w that waits
abbrev pub is_waiting_here : ℕ → List Body → StreamDoc → Bool
is_waiting_here w events d = (d.ws == w) && is_waiting d.no events

-- the streams of w that wait
abbrev pub streams_waiting : View → ℕ → List StreamDoc
streams_waiting V w = filter (λ (d : StreamDoc). is_waiting d.no (V (Events w))) (streams_of V w)
