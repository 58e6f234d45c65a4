-- Of which files a node is made anew, and where the others are refused.
use Rattle.std.specs.Prelude.{◌≡◌, ◌≢◌, ◌⊎◌, ℕ, List, [], false, map, take, slice_get, Ok, Some, None}
use Rattle.model.specs.Types.{Entry, Net}
use Rattle.model.specs.Restore.{first_wrong, follows_on}
use Rattle.model.specs.Spelling.{entry_bytes}
use Rattle.outside.specs.Kept.{Bodies}
use Rattle.entry_codec.specs.Entries.{entry_in}
use Rattle.message_file.specs.Files.{place_behind, IsFileOf}
use Rattle.message_file.specs.Refusals.{RefusesFile}
use Rattle.message_file.specs.State.{KeepsOf}
use Rattle.message_file.specs.declared.attaches.AttachFault.TheVariants.{NotAMessageFile, OtherOwner}

-- the bodies are these entries: each is read as its entry, and has its bytes
pub record AreEntries (entries : List Entry) (bodies : Bodies) : Type 0 where
  pub read : map entry_in bodies ≡ map Ok entries
  pub written : bodies ≡ map entry_bytes entries

-- the bodies are these entries, each the next of its feed behind those before it, with workstations of the network alone
pub record AreHeld (net : Net) (entries : List Entry) (bodies : Bodies) : Type 0 where
  pub are : AreEntries entries bodies
  pub follow : first_wrong net entries ≡ None

-- The body of this number is the first wrong one: those before it are entries that follow on, and it is no entry, or
-- one that does not follow on.
pub record IsFirstWrong (net : Net) (number : ℕ) (bodies : Bodies) : Type 0 where
  pub before : List Entry
  pub held : AreHeld net before (take number bodies)
  pub body : List ℕ
  pub stands : slice_get bodies number ≡ Some body
  pub wrong : (e : Entry) → entry_in body ≡ Ok e → follows_on net before e ≡ false

-- the gate of the first wrong body has this place
pub record IsWrongAt (net : Net) (place : ℕ) (bodies : Bodies) : Type 0 where
  pub number : ℕ
  pub first : IsFirstWrong net number bodies
  pub gate : place ≡ place_behind (take number bodies)

-- the file is one of this workstation, or empty, and keeps these entries
abbrev pub Restarts : Net → ℕ → List Entry → List ℕ → Type 0
Restarts net me entries file =
    (bodies : Bodies) × KeepsOf me (Some file) (Some bodies) × AreHeld net entries bodies

-- the file is none of this workstation: attaching refuses it at this place
abbrev pub IsNoFile : ℕ → ℕ → List ℕ → Type 0
IsNoFile me place file =
    (file ≢ []) × (RefusesFile me (NotAMessageFile place) (Some file) ⊎ RefusesFile me (OtherOwner place) (Some file))

-- it is none, or it keeps a wrong body, and this place shows it
abbrev pub IsRefused : Net → ℕ → ℕ → List ℕ → Type 0
IsRefused net me place file =
    IsNoFile me place file ⊎ ((bodies : Bodies) × IsFileOf me file bodies × IsWrongAt net place bodies)
