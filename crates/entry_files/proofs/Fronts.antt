-- Entries at the front of others, by their bodies.
use Rattle.std.proofs.Common.{◌≡◌, ◌∙◌, ◌++◌, ◌∷◌, [], Err, List, None, Ok, Option, Result, Some, IfOk, IfSome, ap, inr, map, refl, sym, ℕ}
use Rattle.std.proofs.lemmas.List.{map-append}
use Rattle.lemmas.proofs.Lists.{same_head, same_tail}
use Rattle.model.specs.Restore.{restore_fault}
use Rattle.model.specs.Types.{Entry, Net}
use Rattle.outside.specs.Kept.{Bodies}
use Rattle.entry_codec.specs.declared.EntryFault.{EntryFault}
use Rattle.entry_codec.specs.Entries.{entry_in}
use Rattle.kept_files.specs.Growth.{GoesOn, Keeps}
use Rattle.kept_files.specs.declared.faults.FileFault.{FileFault}
use Rattle.kept_files.specs.declared.faults.FileFault.TheVariants.{Folder, NoMemory, NotThisFile}
use Rattle.entry_files.specs.Entries.{GoOn, IsRefused, IsWrongAt, KeepsEntries}

abbrev Read : Type 0
Read = Result Entry EntryFault

abbrev ok : Entry → Read
ok e = Ok e

same_ok : (a b : Entry) → ok a ≡ ok b → a ≡ b
same_ok a b e = cc

no_more : (x : Read) (xs : List Read) → [] ≡ x ∷ xs → ⊥
no_more x xs e = cc

-- what is read of a front stands at the front of what is read
read_front : (kept new : List Entry) (rest : List Read) → map Ok new ≡ map Ok kept ++ rest → GoOn kept new
read_front [] new rest e = (new, refl)
read_front (k ∷ kept) [] rest e = absurd (no_more (Ok k) (map Ok kept ++ rest) e)
read_front (k ∷ kept) (n ∷ new) rest e =
    let more = read_front kept new rest (same_tail e) in
    (more.0, ap (λ (x : Entry). x ∷ new) (same_ok n k (same_head e)) ∙ ap (λ (l : List Entry). k ∷ l) more.1)

pub fronts_go_on : (net : Net) (owner : ℕ) (bodies : Bodies) (entries : List Entry) (old : Option (List ℕ))
    → map entry_in bodies ≡ map Ok entries
    → IfSome old (λ file. (kept : Bodies) → Keeps owner file kept → GoesOn kept bodies)
    → IfSome old (λ file. (kept : List Entry) → KeepsEntries net owner file kept → GoOn kept entries)
fronts_go_on net owner bodies entries None read front = tt
fronts_go_on net owner bodies entries (Some file) read front =
    λ kept keeps.
    let on = front keeps.bodies keeps.kept in
    read_front kept entries (map entry_in on.0)
    (sym read ∙ ap (map entry_in) on.1 ∙ map-append entry_in keeps.bodies on.0
    ∙ ap (λ (l : List Read). l ++ map entry_in on.0) keeps.read)

-- what a file keeps, as entries
pub kept_entries : (net : Net) (owner : ℕ) (bodies : Bodies) (entries : List Entry) (new : Option (List ℕ))
    → map entry_in bodies ≡ map Ok entries → restore_fault net owner entries ≡ None
    → IfSome new (λ file. Keeps owner file bodies) → IfSome new (λ file. KeepsEntries net owner file entries)
kept_entries net owner bodies entries None read restores keeps = tt
kept_entries net owner bodies entries (Some file) read restores keeps =
    record { bodies = bodies; kept = keeps; read = read; restores = restores }

-- what was read of a file
pub kept_result : (net : Net) (owner : ℕ) (bodies slice : Bodies) (new : Option (List ℕ)) (r : Result (List Entry) FileFault)
    → slice ≡ bodies → IfOk r (λ entries. map entry_in slice ≡ map Ok entries)
    → IfOk r (λ entries. restore_fault net owner entries ≡ None) → IfSome new (λ file. Keeps owner file bodies)
    → IfOk r (λ entries. IfSome new (λ file. KeepsEntries net owner file entries))
kept_result net owner bodies slice new (Ok entries) same read restores keeps =
    kept_entries net owner bodies entries new (ap (map entry_in) (sym same) ∙ read) restores keeps
kept_result net owner bodies slice new (Err fault) same read restores keeps = tt

pub front_result : (net : Net) (owner : ℕ) (bodies slice : Bodies) (old : Option (List ℕ)) (r : Result (List Entry) FileFault)
    → slice ≡ bodies → IfOk r (λ entries. map entry_in slice ≡ map Ok entries)
    → IfSome old (λ file. (kept : Bodies) → Keeps owner file kept → GoesOn kept bodies)
    → IfOk r (λ entries. IfSome old (λ file. (kept : List Entry) → KeepsEntries net owner file kept → GoOn kept entries))
front_result net owner bodies slice old (Ok entries) same read front =
    fronts_go_on net owner bodies entries old (ap (map entry_in) (sym same) ∙ read) front
front_result net owner bodies slice old (Err fault) same read front = tt

-- a body that is wrong
pub wrong_refused : (net : Net) (owner : ℕ) (bodies : Bodies) (fault : FileFault) (new : Option (List ℕ))
    → ((place : ℕ) → fault ≡ NotThisFile place → IsWrongAt net owner place bodies)
    → IfSome new (λ file. Keeps owner file bodies) → IfSome new (IsRefused net owner fault)
wrong_refused net owner bodies fault None wrong keeps = tt
wrong_refused net owner bodies (NotThisFile place) (Some file) wrong keeps = inr (bodies, keeps, wrong place refl)
wrong_refused net owner bodies Folder (Some file) wrong keeps = tt
wrong_refused net owner bodies NoMemory (Some file) wrong keeps = tt
