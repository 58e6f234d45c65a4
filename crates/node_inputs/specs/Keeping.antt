-- What a stretch of a run keeps, why an entry is refused, and what a stop at any moment of it leaves.
use Rattle.std.specs.Prelude.{[], ℕ, ◌+◌, ◌++◌, ◌<◌, ◌∷◌, ◌≡◌, ◌≤◌, ◌⊎◌, Bool, Err, List, None, Ok, Option, Result, Some}
use Rattle.std.specs.Prelude.{false, length, map, option_map, sum_by, take, ⊤}
use Rattle.base_types.specs.declared.LimitName.TheVariants.{File}
use Rattle.std.specs.List.{All}
use Rattle.model.specs.Fit.{IsFit}
use Rattle.model.specs.Ranges.{InRange}
use Rattle.model.specs.Types.{Entry}
use Rattle.model.specs.Spelling.{entry_bytes}
use Rattle.outside.specs.Causes.{Rose}
use Rattle.outside.specs.Kept.{Bodies, IsKept}
use Rattle.outside.specs.Records.{longest_file}
use Rattle.node_inputs.specs.Traces.{Event, Trace, kept, refusals, tried}
use Rattle.node_inputs.specs.declared.ends.NodeEnd.{NodeEnd}
use Rattle.node_inputs.specs.declared.ends.NodeEnd.TheVariants.{DiskFault, Limit, NoMemory}

-- the keeper has not failed, and a stop leaves what it keeps
pub record IsReady {K : Type 0} (kept_in : K → Option Bodies) (spent : K → Bool) (may_leave : K → Bodies → Type 0) (keeper : K) : Type 0 where
  pub unspent : spent keeper ≡ false
  pub rest : (left : Bodies) → may_leave keeper left → IsKept (kept_in keeper) left

-- why a keeper refuses an entry
abbrev pub IsRefusal : NodeEnd → Type 0
IsRefusal why = (why ≡ DiskFault) ⊎ (why ≡ Limit File)

-- the entry was kept, or refused, or there was no memory for it
abbrev pub KeptBy : Entry → Trace → Result (Unit {0}) NodeEnd → Type 0
KeptBy e trace (Ok done) = trace ≡ Event.Keeps e ∷ []
KeptBy e trace (Err why) = ((why ≡ NoMemory) × (trace ≡ [])) ⊎ (IsRefusal why × (trace ≡ Event.Refuses e why ∷ []))

abbrev pub bodies : List Entry → Bodies
bodies entries = map entry_bytes entries

-- how many bytes the file of a keeper grows by an entry, and by all that a trace kept
abbrev pub record_size : Entry → ℕ
record_size e = 5 + length (entry_bytes e)

abbrev pub kept_size : Trace → ℕ
kept_size trace = sum_by record_size (kept trace)

-- the bodies before, and behind them those of the trace
abbrev pub KeeperTells : Trace → Option Bodies → Option Bodies → Type 0
KeeperTells trace old new = new ≡ option_map (λ (before : Bodies). before ++ bodies (kept trace)) old

-- the file has so many bytes, and had no room for the entry; or it had room, and the count of the disk's faults rose
abbrev pub IsCause : ℕ → ℕ → ℕ → Entry → NodeEnd → Type 0
IsCause size before now e (Limit File) = longest_file < size + record_size e
IsCause size before now e DiskFault = (size + record_size e ≤ longest_file) × Rose before now
IsCause size before now e _ = ⊥

-- the bodies before, and some of those that were to be kept, in order and none skipped
abbrev pub IsLeft : Trace → Option Bodies → Bodies → Type 0
IsLeft trace None left = ⊤
IsLeft trace (Some before) left =
    (n : ℕ) × (n ≤ length (tried trace)) × (left ≡ before ++ bodies (take n (tried trace)))

-- the bodies before, and all that was kept, with the entry in hand or without
abbrev pub IsLeftAtEnd : Trace → Option Bodies → Bodies → Type 0
IsLeftAtEnd trace None left = ⊤
IsLeftAtEnd trace (Some before) left =
    (n : ℕ) × (length (kept trace) ≤ n) × (n ≤ length (tried trace)) × (left ≡ before ++ bodies (take n (tried trace)))

-- it can be written down and is read again: it is fit, and within the ranges of the program's types
pub record IsWritten (e : Entry) : Type 0 where
  pub fit : IsFit e
  pub in_range : InRange e

-- the bodies before, and at least so many of those that were to be kept, in order and none skipped
abbrev pub IsLeftWith : ℕ → Trace → Option Bodies → Bodies → Type 0
IsLeftWith least trace None left = ⊤
IsLeftWith least trace (Some before) left =
    (n : ℕ) × (least ≤ n) × (n ≤ length (tried trace)) × (left ≡ before ++ bodies (take n (tried trace)))

-- no entry was refused for the disk
abbrev pub IsUnfailed : Trace → Type 0
IsUnfailed trace = (e : Entry) → refusals trace ≡ (e, DiskFault) ∷ [] → ⊥

-- A stop from the moment of one keeper up to that of a later one leaves the bodies before, at least all that the front
-- had kept, and no more than the whole was to keep; or it leaves what it might have left before.
abbrev pub LeavesBetween : {K : Type 0} → (K → Option Bodies) → (K → ℕ) → (K → ℕ → Bodies → Type 0) → Trace → Trace → K → K → K → Type 0
LeavesBetween kept_in moment left_since front whole old one another =
    (t : ℕ) (left : Bodies) → t ≤ moment one → left_since another t left
    → left_since one t left ⊎ IsLeftWith (length (kept front)) whole (kept_in old) left

-- How a keeper stood within a stretch, when so many events of its trace were over: it keeps what they kept, a stop at its
-- moment leaves that, with the one in hand or without, and a stop between two of them leaves what lies between.
pub record IsPath {K : Type 0} (kept_in : K → Option Bodies) (moment : K → ℕ) (may_leave : K → Bodies → Type 0)
    (left_since : K → ℕ → Bodies → Type 0) (trace : Trace) (old new : K) (at_front : ℕ → K) : Type 0 where
  pub tells : (k : ℕ) → KeeperTells (take k trace) (kept_in old) (kept_in (at_front k))
  pub since : (k : ℕ) → moment old ≤ moment (at_front k)
  pub until : (k : ℕ) → moment (at_front k) ≤ moment new
  pub ordered : (j k : ℕ) → j ≤ k → moment (at_front j) ≤ moment (at_front k)
  pub now : (k : ℕ) (left : Bodies) → may_leave (at_front k) left → IsLeftAtEnd (take k trace) (kept_in old) left
  pub first : (k : ℕ) → LeavesBetween kept_in moment left_since [] (take k trace) old old (at_front k)
  pub later : (k : ℕ) → LeavesBetween kept_in moment left_since (take k trace) trace old (at_front k) new
  pub between : (j k : ℕ) → j ≤ k → LeavesBetween kept_in moment left_since (take j trace) (take k trace) old (at_front j) (at_front k)

-- What is kept after a stretch of a run, and what a stop leaves: at any moment of it the bodies before and some of those
-- that were to be kept, in order, and all that had been kept by then; at its end all that were kept, and the one in hand
-- only where the disk failed. An entry was refused for its cause, and a file that was within its limit stays so.
pub record Lasts {K : Type 0} (kept_in : K → Option Bodies) (size faults moment : K → ℕ) (may_leave : K → Bodies → Type 0)
    (left_since : K → ℕ → Bodies → Type 0) (opens_since : K → ℕ → ℕ → Type 0) (trace : Trace) (old new : K) : Type 0 where
  pub tells : KeeperTells trace (kept_in old) (kept_in new)
  pub grows : size new ≡ size old + kept_size trace
  pub within : size old ≤ longest_file → size new ≤ longest_file
  pub no_less : faults old ≤ faults new
  pub causes : (e : Entry) (why : NodeEnd) → refusals trace ≡ (e, why) ∷ [] → IsCause (size new) (faults old) (faults new) e why
  pub later : moment old ≤ moment new
  pub any_moment : (t : ℕ) (left : Bodies) → t ≤ moment old → left_since new t left
      → left_since old t left ⊎ IsLeft trace (kept_in old) left
  pub at_end : (left : Bodies) → may_leave new left → IsLeftAtEnd trace (kept_in old) left
  pub opens : (owner t : ℕ) → t ≤ moment old → opens_since old owner t → opens_since new owner t
  pub written : All IsWritten (tried trace)
  pub unfailed : IsUnfailed trace → (left : Bodies) → may_leave new left → IsKept (kept_in new) left
  pub at_front : ℕ → K
  pub path : IsPath kept_in moment may_leave left_since trace old new at_front
