-- Bodies at the front of a list, their entries, and the places of their gates.
use Rattle.std.proofs.Common.{◌≡◌, ◌∙◌, ◌+◌, ◌-◌, ◌^◌, ◌<◌, ◌≤◌, ◌++◌, ◌∷◌, [], ℕ, zero, suc, List, length, map, take}
use Rattle.std.proofs.Common.{drop, min, sym, ap}
use Rattle.std.proofs.Common.{subst, arith, length-append, take-append-drop, Ok, Result, Some, None, IfSome, slice_get}
use Rattle.std.specs.declared.option.Option.{Option}
use Rattle.std.specs.List.{AllByRecursion}
use Rattle.std.proofs.Math.Nat.{min-eq_left}
use Rattle.std.proofs.lemmas.Grind.{flat_map-append}
use Rattle.std.proofs.lemmas.List.{length_push, map-append, take-map}
use Rattle.std.proofs.lemmas.List.Elements.{All-push}
use Rattle.std.proofs.lemmas.Option.{slice_get_within}
use Rattle.lemmas.proofs.Lists.{take_further}
use Rattle.model.specs.Types.{Entry}
use Rattle.model.specs.Fit.{AreFitEntries, IsFit}
use Rattle.model.specs.Spelling.{entry_bytes}
use Rattle.outside.specs.Kept.{Bodies}
use Rattle.outside.specs.Records.{longest_body, longest_file}
use Rattle.entry_codec.specs.declared.EntryFault.{EntryFault}
use Rattle.entry_codec.specs.Entries.{entry_in}
use Rattle.message_file.specs.Files.{record_of, records, place_behind, HasRoom}
use Rattle.message_file.specs.State.{kept_in, OwnFiles}
use Rattle.message_file.proofs.Putting.{place_with}
use Rattle.message_file.proofs.Reading.{kept_is}
use Rattle.node_restart.specs.Restarting.{AreEntries}
use Rattle.node_restart.specs.Reading.{AreFront, AreShortEntries, IsEntryAt, IsEntryOf, IsFitOf, IsShort, IsShortOf}

-- one entry more
pub one_more : (entries : List Entry) (bodies : Bodies) (i : ℕ) (e : Entry) → AreEntries entries (take i bodies)
    → IsEntryAt i (Some e) bodies → AreEntries (entries ++ e ∷ []) (take (i + 1) bodies)
one_more entries bodies i e are found =
    let front = take i bodies in
    let more : take (i + 1) bodies ≡ front ++ found.0 ∷ [] = take_further bodies i found.0 found.1 in
    record {
      read =
          ap (map entry_in) more ∙ map-append entry_in front (found.0 ∷ [])
          ∙ ap (λ (l : List (Result Entry EntryFault)). l ++ entry_in found.0 ∷ []) are.read
          ∙ ap (λ (r : Result Entry EntryFault). map Ok entries ++ r ∷ []) found.2.0
          ∙ sym (map-append Ok entries (e ∷ []));
      written =
          more ∙ ap (λ (l : Bodies). l ++ found.0 ∷ []) are.written
          ∙ ap (λ (b : List ℕ). map entry_bytes entries ++ b ∷ []) found.2.1
          ∙ sym (map-append entry_bytes entries (e ∷ []));
    }

-- of as many bodies as entries
pub entries_front : (entries : List Entry) (bodies : Bodies) (i : ℕ) → AreEntries entries bodies
    → AreEntries (take i entries) (take i bodies)
entries_front entries bodies i are =
    record {
      read = sym (take-map entry_in i bodies) ∙ ap (take i) are.read ∙ take-map Ok i entries;
      written = ap (take i) are.written ∙ take-map entry_bytes i entries;
    }

-- the records of a front stand before those behind it
front_records : (bodies : Bodies) (i : ℕ) → records bodies ≡ records (take i bodies) ++ records (drop i bodies)
front_records bodies i =
    ap records (sym (take-append-drop i bodies)) ∙ flat_map-append record_of (take i bodies) (drop i bodies)

pub front_behind : (bodies : Bodies) (i : ℕ) → place_behind (take i bodies) ≤ place_behind bodies
front_behind bodies i =
    omega
    (arith, ap length (front_records bodies i), length-append (records (take i bodies)) (records (drop i bodies)))

-- the next gate
pub next_gate : (bodies : Bodies) (i : ℕ) (body : List ℕ) → slice_get bodies i ≡ Some body
    → place_behind (take (i + 1) bodies) ≡ place_behind (take i bodies) + 5 + length body
next_gate bodies i body is = ap place_behind (take_further bodies i body is) ∙ place_with (take i bodies) body

abbrev AreShort : Bodies → Type 0
AreShort bodies = AllByRecursion (λ (body : List ℕ). length body ≤ longest_body) bodies

front_short : (bodies : Bodies) (i : ℕ) → AreShort bodies → AreShort (take i bodies)
front_short bodies zero each = tt
front_short [] (suc i) each = tt
front_short (body ∷ bodies) (suc i) each = (each.0, front_short bodies i each.1)

pub front_room : (bodies : Bodies) (i : ℕ) → HasRoom bodies → HasRoom (take i bodies)
front_room bodies i room =
    record { each = front_short bodies i room.each; all = omega (arith, front_behind bodies i, room.all) }

-- each body is short
pub body_short : (bodies : Bodies) (i : ℕ) (body : List ℕ) → AreShort bodies → slice_get bodies i ≡ Some body
    → length body ≤ longest_body
body_short [] i body each is = absurd (cc is)
body_short (b ∷ bodies) zero body each is =
    let same : b ≡ body = cc is in subst (λ (l : List ℕ). length l ≤ longest_body) same each.0
body_short (b ∷ bodies) (suc i) body each is = body_short bodies i body each.1 is

-- what the body of a number is
pub found_at : (told : Option Bodies) (number : ℕ) (body bytes : List ℕ) (entry : Option Entry) → IfSome told HasRoom
    → IfSome told (λ bodies. slice_get bodies number ≡ Some body) → bytes ≡ body
    → (length bytes ≤ longest_body → IsEntryOf bytes entry) → IfSome told (IsEntryAt number entry)
found_at None number body bytes entry room stands same is = tt
found_at (Some bodies) number body bytes entry room stands same is =
    let found : length body ≤ longest_body → IsEntryOf body entry =
    subst (λ (l : List ℕ). length l ≤ longest_body → IsEntryOf l entry) same is in
    (body, stands, found (body_short bodies number body room.each stands))

-- the bodies that a file of its owner keeps have room
pub own_room : (owner count : ℕ) (told : Option (List ℕ)) (left : List ℕ → Type 0) → OwnFiles owner told left
    → IfSome (kept_in told count) HasRoom
own_room owner count None left own = tt
own_room owner count (Some file) left own =
    let bodies = own.0.0 in
    subst (λ (l : Bodies). HasRoom (take count l)) (sym (kept_is owner file bodies own.0.1)) (front_room bodies count own.0.1.room)

-- how many entries there are with one more
pub counted_next : (entries now : List Entry) (e : Entry) (i : ℕ) → now ≡ entries ++ e ∷ [] → length entries ≡ i → length now ≡ i + 1
counted_next entries now e i is count = ap length is ∙ length_push entries e ∙ ap (λ (n : ℕ). n + 1) count

-- all of them are fit
pub fit_next : (entries now : List Entry) (found : Option Entry) (e : Entry) → now ≡ entries ++ e ∷ [] → found ≡ Some e
    → AreFitEntries entries → IsFitOf found → AreFitEntries now
fit_next entries now found e is same fit one =
    let here : IsFit e = subst IsFitOf same one in
    subst AreFitEntries (sym is) (All-push IsFit entries e fit here)

-- all of them are short
pub short_next : (entries now : List Entry) (found : Option Entry) (e : Entry) → now ≡ entries ++ e ∷ [] → found ≡ Some e
    → AreShortEntries entries → IsShortOf found → AreShortEntries now
short_next entries now found e is same short one =
    let here : IsShort e = subst IsShortOf same one in
    subst AreShortEntries (sym is) (All-push IsShort entries e short here)

-- a walk over the bodies, where they are told, goes on
pub walk_goes : (told now : Option Bodies) (entries more : List Entry) (i : ℕ) (found : Option Entry) (e : Entry)
    → now ≡ told → more ≡ entries ++ e ∷ [] → found ≡ Some e → IfSome told (λ bodies. AreEntries entries (take i bodies))
    → IfSome now (IsEntryAt i found) → IfSome told (λ bodies. AreEntries more (take (i + 1) bodies))
walk_goes None now entries more i found e same is one are stands = tt
walk_goes (Some bodies) None entries more i found e same is one are stands = absurd (cc same)
walk_goes (Some bodies) (Some n) entries more i found e same is one are stands =
    let told : n ≡ bodies = cc same in
    let here : IsEntryAt i found bodies = subst (IsEntryAt i found) told stands in
    let entry : IsEntryAt i (Some e) bodies = subst (λ (o : Option Entry). IsEntryAt i o bodies) one here in
    subst (λ (l : List Entry). AreEntries l (take (i + 1) bodies)) (sym is) (one_more entries bodies i e are entry)

-- and ends
pub walk_ends : (told : Option Bodies) (number : ℕ) (entries : List Entry) (i : ℕ) → length entries ≡ i → number ≤ i
    → IfSome told (λ bodies. length bodies ≡ number) → IfSome told (λ bodies. AreEntries entries (take i bodies))
    → IfSome told (AreFront entries)
walk_ends None number entries i count le sized are = tt
walk_ends (Some bodies) number entries i count le sized are =
    record {
      are = subst (λ (k : ℕ). AreEntries entries (take k bodies)) (sym count) are;
      end = λ body stands.
          absurd (omega (arith, slice_get_within bodies (length entries) body stands, count, le, sized));
    }

-- a sum that stays below its cap
pub uncapped : (gate n first len next : ℕ) → first ≡ min (gate + 5) (2 ^ 64 - 1) → len ≡ n → next ≡ min (first + len) (2 ^ 64 - 1)
    → gate + 5 + n < longest_file → next ≡ gate + 5 + n
uncapped gate n first len next one size two lt =
    let is : first ≡ gate + 5 = one ∙ min-eq_left {n = gate + 5} {m = 2 ^ 64 - 1} (omega (arith, lt)) in
    two ∙ min-eq_left {n = first + len} {m = 2 ^ 64 - 1} (omega (arith, lt, is, size)) ∙ omega (arith, is, size)

-- a walk from gate to gate goes on
pub gate_goes : (told now : Option Bodies) (i gate next : ℕ) (body : List ℕ) → now ≡ told → IfSome told HasRoom
    → IfSome told (λ bodies. gate ≡ place_behind (take i bodies)) → IfSome now (λ bodies. slice_get bodies i ≡ Some body)
    → (gate + 5 + length body < longest_file → next ≡ gate + 5 + length body)
    → IfSome told (λ bodies. next ≡ place_behind (take (i + 1) bodies))
gate_goes None now i gate next body same room stands there sum = tt
gate_goes (Some bodies) None i gate next body same room stands there sum = absurd (cc same)
gate_goes (Some bodies) (Some n) i gate next body same room stands there sum =
    let is : n ≡ bodies = cc same in
    let here : slice_get bodies i ≡ Some body = ap (λ (l : Bodies). slice_get l i) (sym is) ∙ there in
    let more = next_gate bodies i body here in
    let within : gate + 5 + length body < longest_file =
    omega (arith, stands, more, front_behind bodies (i + 1), room.all) in
    omega (arith, sum within, stands, more)
