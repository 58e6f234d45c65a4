-- Pairs of workstations: one has a stream with a job on the other, or an object that cites it. A pair is a code of a group
-- and a place.
use Rattle.std.specs.List.{list_any}
use Rattle.std.specs.Prelude.{[], ℕ, ◌&&◌, ◌++◌, ◌<◌, ◌==◌, ◌^◌, ◌∷◌, ◌≡◌, Bool, List, flat_map, map, true}
use Rattle.grouped_places.specs.Codes.{code}
use Rattle.model.specs.Types.{AddDep, Body, Dep, Entry, Events, Feed, Job, Obeyed, Obj, Orders, Stream, StreamDoc}
use Rattle.model.specs.Words.{has}
use Rattle.model.specs.History.{list_of, view_of}
use Rattle.model.specs.Catalogue.{StreamJob, catalogue, jobs}
use Rattle.model.specs.Dependencies.{dep_cites, deps_added_by}
use Rattle.model.specs.Facts.{commands}

-- these codes have all of those
abbrev pub HasAll : List ℕ → List ℕ → Type 0
HasAll codes those = (c : ℕ) → has those c ≡ true → has codes c ≡ true

-- more codes, and all of those
pub record Grows (those old new : List ℕ) : Type 0 where
  pub keeps : HasAll new old
  pub there : HasAll new those

-- w with each that a dependency cites
abbrev pub dep_pairs : (Dep → List ℕ) → ℕ → Dep → List ℕ
dep_pairs cite w d = map (code w) (cite d)

-- with each that is cited by a dependency that the object of w was given, written or by a command among these events
abbrev pub object_pairs : (Dep → List ℕ) → ℕ → Obj → List Dep → List Body → List ℕ
object_pairs cite w o written events =
    flat_map (dep_pairs cite w) (written ++ flat_map (deps_added_by o) (commands events))

abbrev pub stream_pairs : (Dep → List ℕ) → List Entry → StreamDoc → List ℕ
stream_pairs cite kept d = object_pairs cite d.ws (Stream d.no) d.deps (list_of kept (Events d.ws))

-- the workstation of a job's stream with that of the job, too
abbrev pub job_pairs : (Dep → List ℕ) → List Entry → StreamJob → List ℕ
job_pairs cite kept p =
    code p.parent.ws p.doc.ws ∷ object_pairs cite p.doc.ws (Job p.doc.no) p.doc.deps (list_of kept (Events p.doc.ws))

-- at least the pairs by these entries of these streams and jobs
pub record ArePairsAmong (cite : Dep → List ℕ) (kept : List Entry) (docs : List StreamDoc) (placed : List StreamJob)
    (pairs : List ℕ) : Type 0 where
  pub streams : HasAll pairs (flat_map (stream_pairs cite kept) docs)
  pub jobs : HasAll pairs (flat_map (job_pairs cite kept) placed)

abbrev pub ArePairsOf : List Entry → List ℕ → Type 0
ArePairsOf kept pairs =
    ArePairsAmong (dep_cites (view_of kept)) kept (catalogue (view_of kept)) (jobs (view_of kept)) pairs

-- the pairs that an entry brings which is no plan
abbrev pub pairs_by : (Dep → List ℕ) → ℕ → Body → List ℕ
pairs_by cite w (Obeyed a k (AddDep o d)) = dep_pairs cite w d
pairs_by cite w _ = []

abbrev pub pairs_in : (Dep → List ℕ) → Body → Feed → List ℕ
pairs_in cite b (Events w) = pairs_by cite w b
pairs_in cite b (Orders a w) = []

-- the job is on x, and its stream is of v
abbrev pub is_work : ℕ → ℕ → StreamJob → Bool
is_work v x p = (p.parent.ws == v) && (p.doc.ws == x)

-- of these jobs exactly the pairs of the workstation of the stream and that of the job
abbrev pub AreWorksAmong : List StreamJob → List ℕ → Type 0
AreWorksAmong placed works = (v x : ℕ) → x < 2 ^ 32 → has works (code v x) ≡ list_any (is_work v x) placed

abbrev pub AreWorksOf : List Entry → List ℕ → Type 0
AreWorksOf kept works = AreWorksAmong (jobs (view_of kept)) works
