-- The same of a file that may be told.
use Rattle.std.proofs.Common.{◌≡◌, ◌∙◌, ◌++◌, ℕ, List, None, Option, Some, IfSome, ap, drop, refl, sym}
use Rattle.outside.specs.Files.{Told}
use Rattle.outside.specs.Kept.{Bodies, with_body}
use Rattle.message_file.specs.Files.{HasRoom, place_behind}
use Rattle.kept_files.specs.declared.faults.FileFault.{FileFault}
use Rattle.kept_files.specs.declared.faults.FileFault.TheVariants.{Folder, NoMemory, NotThisFile}
use Rattle.kept_files.specs.Found.{BeginsRecord, BreaksHere, IsShut}
use Rattle.kept_files.specs.Growth.{BeginsWith, GoesOn, IsNoFileAt, IsRefused, Keeps, KeepsMore, KeepsNone}
use Rattle.kept_files.proofs.Beginning.{begins_further, breaks_off, shut_keeps}
use Rattle.kept_files.proofs.Growing.{never_refused, one_list}

-- what is said of a file that is told
pub told_all : {X : Type 0} (P : X → Type 0) (told : Option X) → ((x : X) → told ≡ Some x → P x) → IfSome told P
told_all P None each = tt
told_all P (Some x) each = each x refl

-- the records at the front stay
pub stays : (owner : ℕ) (bodies : Bodies) (old new : Option (List ℕ)) → Told (KeepsMore owner) old new
    → IfSome old (λ file. BeginsWith owner file bodies) → IfSome new (λ file. BeginsWith owner file bodies)
stays owner bodies None None grows begins = tt
stays owner bodies (Some a) (Some b) grows begins = grows.records_stay bodies begins
stays owner bodies None (Some b) grows begins = absurd grows
stays owner bodies (Some a) None grows begins = absurd grows

-- one record further
pub further : (owner place : ℕ) (body : List ℕ) (bodies : Bodies) (told : Option (List ℕ)) → place ≡ place_behind bodies
    → IfSome told (λ file. BeginsWith owner file bodies) → IfSome told (λ file. BeginsRecord place body (drop place file))
    → IfSome told (λ file. BeginsWith owner file (with_body body bodies))
further owner place body bodies None at begins here = tt
further owner place body bodies (Some file) at begins here = begins_further owner place file body bodies at begins here

-- at the end of the records
pub ends : (owner place : ℕ) (bodies : Bodies) (told : Option (List ℕ)) → place ≡ place_behind bodies → HasRoom bodies
    → IfSome told (λ file. BeginsWith owner file bodies) → IfSome told (λ file. IsShut (drop place file))
    → IfSome told (λ file. Keeps owner file bodies)
ends owner place bodies None at room begins shut = tt
ends owner place bodies (Some file) at room begins shut = shut_keeps owner place file bodies at room begins shut

-- and where it breaks off
pub breaks : (owner place : ℕ) (bodies : Bodies) (fault : FileFault) (told : Option (List ℕ))
    → place ≡ place_behind bodies → HasRoom bodies → IfSome told (λ file. BeginsWith owner file bodies)
    → IfSome told (λ file. BreaksHere place fault (drop place file)) → IfSome told (IsRefused owner fault)
breaks owner place bodies fault None at room begins broken = tt
breaks owner place bodies Folder (Some file) at room begins broken = tt
breaks owner place bodies NoMemory (Some file) at room begins broken = tt
breaks owner place bodies (NotThisFile here) (Some file) at room begins broken =
    rw broken.0 (breaks_off owner place file bodies at room begins broken.1)

-- all that a file kept at first stands at the front of what it keeps at last
pub goes_on : (owner : ℕ) (bodies : Bodies) (old new : Option (List ℕ)) → Told (KeepsMore owner) old new
    → IfSome new (λ file. Keeps owner file bodies)
    → IfSome old (λ file. (kept : Bodies) → Keeps owner file kept → GoesOn kept bodies)
goes_on owner bodies None new grows keeps = tt
goes_on owner bodies (Some a) None grows keeps = absurd grows
goes_on owner bodies (Some a) (Some b) grows keeps =
    λ kept here.
    let later = grows.keeps kept here in
    (later.1.0, sym (one_list owner b later.0 bodies later.2 keeps) ∙ later.1.1)

-- and a file that is refused at last kept nothing at first
pub kept_none : (owner : ℕ) (fault : FileFault) (old new : Option (List ℕ)) → Told (KeepsMore owner) old new
    → IfSome new (IsRefused owner fault) → IfSome old (KeepsNone owner fault)
kept_none owner fault None new grows refused = tt
kept_none owner fault (Some a) None grows refused = absurd grows
kept_none owner Folder (Some a) (Some b) grows refused = tt
kept_none owner NoMemory (Some a) (Some b) grows refused = tt
kept_none owner (NotThisFile place) (Some a) (Some b) grows refused =
    λ kept here.
    let later = grows.keeps kept here in
    never_refused owner place b later.0 later.2 refused
