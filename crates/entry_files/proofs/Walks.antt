-- A walk over bodies that are read as entries.
use Rattle.std.proofs.Common.{◌≡◌, ◌∙◌, ◌+◌, ◌<◌, ◌≤◌, ◌++◌, ◌∷◌, [], ℕ, List, Ok, None, Result, Some, ap, arith}
use Rattle.std.proofs.Common.{drop, length, length-append, map, refl, slice_get, subst, sym, take, take-append-drop, true}
use Rattle.std.proofs.lemmas.Bool.{lt-ltb}
use Rattle.std.proofs.lemmas.Grind.{flat_map-append}
use Rattle.std.proofs.lemmas.List.{map-append}
use Rattle.std.proofs.lemmas.List.Elements.{All-push}
use Rattle.lemmas.proofs.Lists.{take_further, take_whole}
use Rattle.model.specs.Fit.{AreFitEntries, IsFit}
use Rattle.model.specs.Network.{node_count}
use Rattle.model.specs.Restore.{first_wrong, follows_on, restore_fault}
use Rattle.model.specs.Types.{Entry, Net}
use Rattle.model_laws.proofs.Restored.{IsRestored, means_restored, one_more}
use Rattle.outside.specs.Kept.{Bodies}
use Rattle.outside.specs.Records.{longest_file}
use Rattle.message_file.specs.Files.{place_behind, record_of, records}
use Rattle.message_file.proofs.Putting.{place_with}
use Rattle.entry_codec.specs.declared.EntryFault.{EntryFault}
use Rattle.entry_codec.specs.Entries.{entry_in}
use Rattle.entry_files.specs.Entries.{IsWrongAt}
use Rattle.entry_files.specs.Nexts.{IsNextOf}

-- before the first body
pub none_taken : (net : Net) (owner : ℕ) → owner < node_count net → IsRestored net owner []
unfolding first_wrong
none_taken net owner h = record { inside = lt-ltb owner (node_count net) h; none_wrong = refl }

-- what a walk took so far of the bodies
pub record IsTaken (net : Net) (owner : ℕ) (bodies : Bodies) (i place : ℕ) (taken : List Entry) : Type 0 where
  pub counted : length taken ≡ i
  pub read : map entry_in (take i bodies) ≡ map Ok taken
  pub restored : IsRestored net owner taken
  pub fit : AreFitEntries taken
  pub gate : place ≡ place_behind (take i bodies)

pub begins : (net : Net) (owner : ℕ) (bodies : Bodies) → owner < node_count net → IsTaken net owner bodies 0 8 []
begins net owner bodies h =
    record { counted = refl; read = refl; restored = none_taken net owner h; fit = λ k d low. absurd (omega (arith, low)); gate = refl }

-- one body further
pub further : (net : Net) (owner : ℕ) (bodies : Bodies) (i place next : ℕ) (taken now : List Entry) (body : List ℕ) (e : Entry)
    → IsTaken net owner bodies i place taken → slice_get bodies i ≡ Some body → IsNextOf net taken body (Some e)
    → now ≡ taken ++ e ∷ [] → next ≡ place + (5 + length body) → IsTaken net owner bodies (i + 1) next now
further net owner bodies i place next taken now body e so_far stands is put sum =
    subst (λ (l : List Entry). IsTaken net owner bodies (i + 1) next l) (sym put)
    (record {
      counted = omega (arith, so_far.counted, length-append taken (e ∷ []));
      read =
          ap (map entry_in) more ∙ map-append entry_in front (body ∷ [])
          ∙ ap (λ (l : List (Result Entry EntryFault)). l ++ entry_in body ∷ []) so_far.read
          ∙ ap (λ (r : Result Entry EntryFault). map Ok taken ++ r ∷ []) is.0 ∙ sym (map-append Ok taken (e ∷ []));
      restored = one_more net owner taken (Some e) so_far.restored (λ d same. subst (λ (x : Entry). follows_on net taken x ≡ true) (cc same) is.2);
      fit = All-push IsFit taken e so_far.fit is.1;
      gate = omega (arith, sum, so_far.gate, ap place_behind more, place_with front body);
    })
  where
    front : Bodies
    front = take i bodies

    more : take (i + 1) bodies ≡ front ++ body ∷ []
    more = take_further bodies i body stands

-- a front lies within the whole
pub front_within : (bodies : Bodies) (i : ℕ) (body : List ℕ) → slice_get bodies i ≡ Some body
    → place_behind (take i bodies) + 5 + length body ≤ place_behind bodies
front_within bodies i body stands =
    omega (
      arith,
      ap place_behind (take_further bodies i body stands),
      place_with (take i bodies) body,
      ap length (ap records (sym (take-append-drop (i + 1) bodies))
          ∙ flat_map-append record_of (take (i + 1) bodies) (drop (i + 1) bodies)),
      length-append (records (take (i + 1) bodies)) (records (drop (i + 1) bodies)),
    )

-- so the sum of its place, five and its length stays low
pub low_sum : (net : Net) (owner : ℕ) (bodies : Bodies) (i place size : ℕ) (taken : List Entry) (body : List ℕ)
    → IsTaken net owner bodies i place taken → slice_get bodies i ≡ Some body → size ≡ length body
    → place_behind bodies < longest_file → place + (5 + size) < longest_file
low_sum net owner bodies i place size taken body so_far stands is low =
    omega (arith, so_far.gate, front_within bodies i body stands, is, low)

-- a body that does not follow on
pub stops : (net : Net) (owner : ℕ) (bodies : Bodies) (i place : ℕ) (taken : List Entry) (body : List ℕ)
    → IsTaken net owner bodies i place taken → slice_get bodies i ≡ Some body → IsNextOf net taken body None
    → IsWrongAt net owner place bodies
stops net owner bodies i place taken body so_far stands wrong =
    record {
      before = taken;
      read = ap (λ (n : ℕ). map entry_in (take n bodies)) so_far.counted ∙ so_far.read;
      restores = means_restored net owner taken so_far.restored;
      body = body;
      stands = ap (slice_get bodies) so_far.counted ∙ stands;
      wrong = wrong;
      gate = so_far.gate ∙ ap (λ (n : ℕ). place_behind (take n bodies)) (sym so_far.counted);
    }

-- all bodies were taken
pub all_read : (net : Net) (owner : ℕ) (bodies : Bodies) (i place : ℕ) (taken : List Entry) → length bodies ≤ i
    → IsTaken net owner bodies i place taken → map entry_in bodies ≡ map Ok taken
all_read net owner bodies i place taken end so_far =
    ap (map entry_in) (sym (take_whole bodies i end)) ∙ so_far.read

pub all_restored : (net : Net) (owner : ℕ) (bodies : Bodies) (i place : ℕ) (taken : List Entry)
    → IsTaken net owner bodies i place taken → restore_fault net owner taken ≡ None
all_restored net owner bodies i place taken so_far = means_restored net owner taken so_far.restored
