-- Which entries a message file keeps, and which files a node of its workstation would refuse.
use Rattle.std.specs.Prelude.{◌≡◌, ◌⊎◌, ◌++◌, ℕ, List, false, length, map, take, slice_get, Ok, Some, None, ⊤}
use Rattle.model.specs.Types.{Entry, Net}
use Rattle.model.specs.Restore.{follows_on, restore_fault}
use Rattle.outside.specs.Kept.{Bodies}
use Rattle.entry_codec.specs.Entries.{entry_in}
use Rattle.message_file.specs.Files.{place_behind}
use Rattle.kept_files.specs.Growth.{IsNoFileAt, Keeps}
use Rattle.kept_files.specs.declared.faults.FileFault.{FileFault}
use Rattle.kept_files.specs.declared.faults.FileFault.TheVariants.{Folder, NoMemory, NotThisFile}

-- the file is one of this workstation, or empty; its bodies are these entries, in order, and a node of the workstation is
-- restored from them
pub record KeepsEntries (net : Net) (owner : ℕ) (file : List ℕ) (entries : List Entry) : Type 0 where
  pub bodies : Bodies
  pub kept : Keeps owner file bodies
  pub read : map entry_in bodies ≡ map Ok entries
  pub restores : restore_fault net owner entries ≡ None

-- one list of entries goes on as the other
abbrev pub GoOn : List Entry → List Entry → Type 0
GoOn old new = (more : List Entry) × (new ≡ old ++ more)

-- A node is restored from the entries at the front of the bodies, and the body behind them is no entry that follows on.
-- Its gate has this place.
pub record IsWrongAt (net : Net) (owner place : ℕ) (bodies : Bodies) : Type 0 where
  pub before : List Entry
  pub read : map entry_in (take (length before) bodies) ≡ map Ok before
  pub restores : restore_fault net owner before ≡ None
  pub body : List ℕ
  pub stands : slice_get bodies (length before) ≡ Some body
  pub wrong : (e : Entry) → entry_in body ≡ Ok e → follows_on net before e ≡ false
  pub gate : place ≡ place_behind (take (length before) bodies)

-- why the entries of a file were not read, told of it: it is none of the workstation, or keeps a body that is wrong
abbrev pub IsRefused : Net → ℕ → FileFault → List ℕ → Type 0
IsRefused net owner (NotThisFile place) file =
    IsNoFileAt owner place file ⊎ ((bodies : Bodies) × Keeps owner file bodies × IsWrongAt net owner place bodies)
IsRefused net owner Folder file = ⊤
IsRefused net owner NoMemory file = ⊤
