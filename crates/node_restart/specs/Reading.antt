-- What reading a keeper's bodies gives and leaves.
use Rattle.std.specs.Prelude.{◌≡◌, ◌≢◌, ◌≤◌, ℕ, List, length, take, slice_get, Ok, Some, None, ⊤}
use Rattle.std.specs.declared.option.Option.{Option}
use Rattle.std.specs.List.{All}
use Rattle.model.specs.Types.{Entry}
use Rattle.model.specs.Fit.{IsFit}
use Rattle.model.specs.Spelling.{entry_bytes}
use Rattle.outside.specs.Kept.{Bodies}
use Rattle.outside.specs.Records.{longest_body}
use Rattle.entry_codec.specs.Entries.{entry_in}
use Rattle.node_restart.specs.Restarting.{AreEntries}

-- the calls so far read the keeper and no more: it keeps the same, and a stop leaves nothing else
pub record OnlyReads {K : Type 0} (kept_in : K → Option Bodies) (number : K → ℕ) (may_leave : K → Bodies → Type 0)
    (moment : K → ℕ) (left_since : K → ℕ → Bodies → Type 0) (opens_since : K → ℕ → ℕ → Type 0) (old new : K) : Type 0 where
  pub kept : kept_in new ≡ kept_in old
  pub same : number new ≡ number old
  pub later : moment old ≤ moment new
  pub now : (left : Bodies) → may_leave new left → may_leave old left
  pub since : (t : ℕ) (left : Bodies) → t ≤ moment old → left_since new t left → left_since old t left
  pub opens : (owner t : ℕ) → t ≤ moment old → opens_since old owner t → opens_since new owner t

-- the bytes are no entry
abbrev pub IsNoEntry : List ℕ → Type 0
IsNoEntry bytes = (e : Entry) → entry_in bytes ≢ Ok e

-- the bytes are this entry, or none
abbrev pub IsEntryOf : List ℕ → Option Entry → Type 0
IsEntryOf bytes None = IsNoEntry bytes
IsEntryOf bytes (Some e) = (entry_in bytes ≡ Ok e) × (bytes ≡ entry_bytes e)

-- the body of this number is this entry, or none
abbrev pub IsEntryAt : ℕ → Option Entry → Bodies → Type 0
IsEntryAt number entry bodies = (body : List ℕ) × (slice_get bodies number ≡ Some body) × IsEntryOf body entry

-- an entry that was found is fit
abbrev pub IsFitOf : Option Entry → Type 0
IsFitOf None = ⊤
IsFitOf (Some e) = IsFit e

-- the entry has at most 4,194,304 bytes
abbrev pub IsShort : Entry → Type 0
IsShort e = length (entry_bytes e) ≤ longest_body

abbrev pub AreShortEntries : List Entry → Type 0
AreShortEntries entries = All IsShort entries

-- an entry that was found is short
abbrev pub IsShortOf : Option Entry → Type 0
IsShortOf None = ⊤
IsShortOf (Some e) = IsShort e

-- the bodies at the front are these entries, and the one behind them, if there is one, is none
pub record AreFront (entries : List Entry) (bodies : Bodies) : Type 0 where
  pub are : AreEntries entries (take (length entries) bodies)
  pub end : (body : List ℕ) → slice_get bodies (length entries) ≡ Some body → IsNoEntry body
