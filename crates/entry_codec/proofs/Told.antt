-- What the answer of reading tells of the bytes.
use Rattle.std.proofs.Common.{◌≡◌, ◌≢◌, ℕ, List, ◌++◌, Result, Ok, Err, subst}
use Rattle.std.specs.Prelude.{IfOk, IfErr}
use Rattle.std.specs.Result.{IsErrOf}
use Rattle.model.specs.Types.{Entry}
use Rattle.model.specs.Fit.{IsFit}
use Rattle.model.specs.Ranges.{InRange}
use Rattle.model.specs.Spelling.{entry_bytes}
use Rattle.entry_codec.specs.declared.EntryFault.{EntryFault}
use Rattle.entry_codec.specs.declared.EntryFault.TheVariants.{Short, Version, BadField, TooMuch, NoMemory}
use Rattle.entry_codec.specs.Read.{Gives}
use Rattle.entry_codec.specs.Entries.{entry_in, HasOtherVersion, IsLeftAt, IsLasting}
use Rattle.entry_codec.proofs.Readers.{IsBytes}
use Rattle.entry_codec.proofs.Whole.{whole_found, version_found, left_found, begins_none}

pub is_found : (bytes : List ℕ) (r : Result Entry EntryFault) → IsBytes bytes → Gives r (entry_in bytes)
    → IfOk r (λ e. IsFit e × (bytes ≡ entry_bytes e))
is_found bytes (Ok e) is h = whole_found bytes e is h
is_found bytes (Err f) is h = tt

pub tells_version : (bytes : List ℕ) (r : Result Entry EntryFault) → IsBytes bytes → Gives r (entry_in bytes)
    → IsErrOf r Version → HasOtherVersion bytes
tells_version bytes r is h k =
    let told : Gives (Err Version) (entry_in bytes) =
    subst (λ (s : Result Entry EntryFault). Gives s (entry_in bytes)) k h in
    version_found bytes is (told (λ e. cc))

pub tells_left : (bytes : List ℕ) (r : Result Entry EntryFault) → IsBytes bytes → Gives r (entry_in bytes) → (p : ℕ)
    → IsErrOf r (TooMuch p) → IsLeftAt bytes p
tells_left bytes r is h p k =
    let told : Gives (Err (TooMuch p)) (entry_in bytes) =
    subst (λ (s : Result Entry EntryFault). Gives s (entry_in bytes)) k h in
    left_found bytes p is (told (λ e. cc))

is_told : (f : EntryFault) → IsLasting f → f ≢ NoMemory
is_told (Short p) lasting e = lasting
is_told Version lasting e = cc
is_told (BadField p) lasting e = cc
is_told (TooMuch p) lasting e = cc
is_told NoMemory lasting e = lasting

pub stays : (bytes : List ℕ) (r : Result Entry EntryFault) → IsBytes bytes → Gives r (entry_in bytes)
    → IfErr r (λ f. IsLasting f → (e : Entry) (more : List ℕ) → IsFit e → InRange e → bytes ++ more ≢ entry_bytes e)
stays bytes (Ok e) is h = tt
stays bytes (Err f) is h =
    λ lasting e more fit in_range. begins_none bytes f is (h (is_told f lasting)) lasting e more fit in_range
