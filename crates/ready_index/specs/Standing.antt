-- When an index stands for a view.
use Rattle.std.specs.Prelude.{[], ℕ, ◌<◌, ◌≡◌, ◌⊎◌, List, find, option_map, true}
use Rattle.model.specs.Types.{Net}
use Rattle.model.specs.History.{View}
use Rattle.model.specs.Catalogue.{StreamJob, jobs_of}
use Rattle.model.specs.Readiness.{best, is_ready}
use Rattle.ready_index.specs.Awaited.{IsAwaited, is_in_play}
use Rattle.ready_index.specs.Ends.{KnowsEnds}
use Rattle.ready_index.specs.Lists.{Among, InOrder}
use Rattle.ready_index.specs.Places.{IsPlaceHere, IsPlaceOf, number_at}
use Rattle.ready_index.specs.Releases.{KnowsWaiting}
use Rattle.ready_index.specs.Watched.{waiting_for}
use Rattle.ready_index.specs.declared.index.Index.{Index}
use Rattle.ready_index.specs.declared.jobs.JobIndex.{JobIndex}
use Rattle.ready_index.specs.declared.targets.Target.{Target}

-- the place of a job is among the candidates
pub record IsCandidate (V : View) (index : JobIndex) (p : StreamJob) : Type 0 where
  pub place : ℕ
  pub here : Among place index.candidates
  pub placed : IsPlaceOf V p place

-- a job watches something that it waits for
pub record IsWatching (V : View) (index : JobIndex) (p : StreamJob) : Type 0 where
  pub target : Target
  pub watches : Among p.doc.no (waiting_for index.watches target)
  pub waits : IsAwaited V p target

-- a job is a candidate or watches something that it waits for
abbrev pub IsKnown : View → JobIndex → StreamJob → Type 0
IsKnown V index p = IsCandidate V index p ⊎ IsWatching V index p

-- each job of w in play is known to the index, but for the jobs of these numbers, and each candidate is a job of w
pub record IsJobIndexBut (V : View) (w : ℕ) (numbers : List ℕ) (index : JobIndex) : Type 0 where
  pub known :
      (p : StreamJob) → Among p (jobs_of V w) → is_in_play V w p ≡ true → IsKnown V index p ⊎ Among p.doc.no numbers
  pub real : (place : ℕ) → Among place index.candidates → IsPlaceHere V w place

-- each job of w in play is a candidate or watches something that it waits for, and each candidate is a job of w
abbrev pub IsJobIndexOf : View → ℕ → JobIndex → Type 0
IsJobIndexOf V w index = IsJobIndexBut V w [] index

-- it stands for the jobs of w, and knows each stream that waits at w for its release, and each that may end at w
pub record IsIndexOf (V : View) (w : ℕ) (index : Index) : Type 0 where
  pub jobs : IsJobIndexOf V w index.jobs
  pub releases : KnowsWaiting V w index.releases
  pub ends : KnowsEnds V w index.ends.streams

-- the job of this number, if it is one of w in play, is known then, and nobody else gets lost
pub record IsLookedAt (V : View) (w number : ℕ) (old new : JobIndex) : Type 0 where
  pub candidates : (place : ℕ) → Among place old.candidates → Among place new.candidates
  pub watches :
      (t : Target) (j : ℕ) → Among j (waiting_for old.watches t) → Among j (waiting_for new.watches t)
  pub real : (place : ℕ) → Among place new.candidates → Among place old.candidates ⊎ IsPlaceHere V w place
  pub known :
      (p : StreamJob) → Among p (jobs_of V w) → p.doc.no ≡ number → is_in_play V w p ≡ true → IsKnown V new p

-- the first candidate that is ready is the best job
abbrev pub FirstReadyIsBest : Type 0
FirstReadyIsBest =
    (net : Net) (V : View) (w : ℕ) (index : JobIndex) → InOrder ◌<◌ index.candidates → IsJobIndexOf V w index
    → option_map number_at (find (λ k. is_ready net V w (number_at k)) index.candidates) ≡ best net V w
