-- What a body is behind some entries.
use Rattle.std.specs.Prelude.{◌≡◌, ◌≢◌, ◌+◌, List, ℕ, true, false, length, Ok, Some, None}
use Rattle.std.specs.declared.option.Option.{Option}
use Rattle.model.specs.Types.{Entry, Net}
use Rattle.model.specs.Fit.{IsFit}
use Rattle.model.specs.History.{list_of}
use Rattle.model.specs.Restore.{follows_on}
use Rattle.entry_codec.specs.Entries.{entry_in}

-- the bytes are this entry, or none
abbrev pub IsEntryOf : List ℕ → Option Entry → Type 0
IsEntryOf bytes (Some e) = (entry_in bytes ≡ Ok e) × IsFit e
IsEntryOf bytes None = (e : Entry) → entry_in bytes ≢ Ok e

-- the bytes are an entry that follows on behind those that were taken, or none that does
abbrev pub IsNextOf : Net → List Entry → List ℕ → Option Entry → Type 0
IsNextOf net taken bytes (Some e) =
    (entry_in bytes ≡ Ok e) × IsFit e × (follows_on net taken e ≡ true)
    × (e.place ≡ length (list_of taken e.feed) + 1)
IsNextOf net taken bytes None = (e : Entry) → entry_in bytes ≡ Ok e → follows_on net taken e ≡ false
