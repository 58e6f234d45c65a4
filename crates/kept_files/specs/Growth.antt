-- What a message file keeps while a node may write it, and which files are none.
use Rattle.std.specs.Prelude.{◌≡◌, ◌≢◌, ◌⊎◌, ℕ, List, [], ◌++◌, drop, Some, ⊤}
use Rattle.outside.specs.Kept.{Bodies}
use Rattle.message_file.specs.Files.{head_of, place_behind, records, IsFileOf}
use Rattle.message_file.specs.Refusals.{RefusesFile}
use Rattle.kept_files.specs.declared.faults.FileFault.{FileFault}
use Rattle.kept_files.specs.declared.faults.FileFault.TheVariants.{Folder, NoMemory, NotThisFile}
use Rattle.message_file.specs.declared.attaches.AttachFault.TheVariants.{NotAMessageFile, OtherOwner}

-- the file keeps these bodies; one that has no bytes yet keeps none
abbrev pub Keeps : ℕ → List ℕ → Bodies → Type 0
Keeps owner file bodies = IsFileOf owner file bodies ⊎ ((file ≡ []) × (bodies ≡ []))

-- the file begins with the owner's head and the records of these bodies, all whole and their gates open
abbrev pub BeginsWith : ℕ → List ℕ → Bodies → Type 0
BeginsWith owner file bodies = file ≡ head_of owner ++ records bodies ++ drop (place_behind bodies) file

-- one list goes on as the other
abbrev pub GoesOn : Bodies → Bodies → Type 0
GoesOn old new = (more : Bodies) × (new ≡ old ++ more)

-- What a node does to its file: the records at the front stay, and the file keeps what it kept, perhaps with more.
pub record KeepsMore (owner : ℕ) (old new : List ℕ) : Type 0 where
  pub records_stay : (bodies : Bodies) → BeginsWith owner old bodies → BeginsWith owner new bodies
  pub keeps : (kept : Bodies) → Keeps owner old kept → (now : Bodies) × GoesOn kept now × Keeps owner new now

-- whoever writes the file of this name keeps more and does nothing else
abbrev pub OnlyKeepsMore : (List ℕ → List ℕ → List ℕ → Type 0) → ℕ → List ℕ → Type 0
OnlyKeepsMore becomes owner name = (old new : List ℕ) → becomes name old new → KeepsMore owner old new

-- the file is none of this owner, and this place shows it
abbrev pub IsNoFileAt : ℕ → ℕ → List ℕ → Type 0
IsNoFileAt owner place file =
    (file ≢ []) × (RefusesFile owner (NotAMessageFile place) (Some file) ⊎ RefusesFile owner (OtherOwner place) (Some file))

-- why a file was not read, told of it
abbrev pub IsRefused : ℕ → FileFault → List ℕ → Type 0
IsRefused owner (NotThisFile place) file = IsNoFileAt owner place file
IsRefused owner Folder file = ⊤
IsRefused owner NoMemory file = ⊤

-- where a file is refused, it keeps nothing of this owner's
abbrev pub KeepsNone : ℕ → FileFault → List ℕ → Type 0
KeepsNone owner (NotThisFile place) file = (kept : Bodies) → Keeps owner file kept → ⊥
KeepsNone owner Folder file = ⊤
KeepsNone owner NoMemory file = ⊤
