-- Where the record with a number stands, and what is found there.
use Rattle.std.proofs.Common.{◌≡◌, inl, inr, ℕ, zero, suc, ◌+◌, ◌-◌, ◌<◌, ◌≤◌, List, [], ◌∷◌, ◌++◌, length, get_or, take, drop, refl, sym, ◌∙◌, ap, subst, arith, append_assoc, length-append, Some, None, IfSome, slice_get}
use Rattle.std.specs.declared.option.Option.{Option}
use Rattle.std.specs.List.{AllByRecursion}
use Rattle.std.specs.Int.{w32, from_be_bytes}
use Rattle.std.proofs.lemmas.Nat.{from_be_bytes-to_be_bytes_4}
use Rattle.std.proofs.lemmas.List.{take_at, drop_at}
use Rattle.std.proofs.lemmas.Option.{slice_get-get_or}
use Rattle.model.specs.Fields.{u32_bytes}
use Rattle.outside.specs.Records.{longest_body, longest_file}
use Rattle.outside.specs.Kept.{Bodies}
use Rattle.message_file.specs.Files.{head_of, record_of, records, place_behind, IsNoRecord, first_record, kept_of}
use Rattle.message_file.specs.Attaching.{IsFound}
use Rattle.message_file.specs.Cursors.{IsHeld, IsPlaceOf, IsBodyOf}
use Rattle.message_file.specs.State.{StandsBehind}
use Rattle.message_file.specs.declared.records.Found.TheVariants.{Closed, Broken, Next}
use Rattle.message_file.proofs.Reading.{kept_is, record_front, length-head, length-record}

abbrev pub body_of : Bodies → ℕ → List ℕ
body_of bodies k = get_or bodies k []

-- the records before one, it, and those behind it
split : (bodies : Bodies) (k : ℕ) → k < length bodies → records bodies ≡ records (take k bodies) ++ (record_of (body_of bodies k) ++ records (drop (suc k) bodies))
split [] k lt = absurd (omega (arith, lt))
split (b ∷ bodies) zero lt = refl
split (b ∷ bodies) (suc k) lt =
    ap (λ (l : List ℕ). record_of b ++ l) (split bodies k (omega (arith, lt))) ∙ sym (append_assoc (record_of b) (records (take k bodies)) (record_of (body_of bodies k) ++ records (drop (suc k) bodies)))

more : (bodies : Bodies) (k : ℕ) → k < length bodies → length (records (take (suc k) bodies)) ≡ length (records (take k bodies)) + (5 + length (body_of bodies k))
more [] k lt = absurd (omega (arith, lt))
more (b ∷ bodies) zero lt = omega (arith, length-append (record_of b) [], length-record b)
more (b ∷ bodies) (suc k) lt = omega (arith, length-append (record_of b) (records (take (suc k) bodies)), length-append (record_of b) (records (take k bodies)), more bodies k (omega (arith, lt)))

short_body : (bodies : Bodies) (k : ℕ) → AllByRecursion (λ (body : List ℕ). length body ≤ longest_body) bodies → k < length bodies → length (body_of bodies k) ≤ longest_body
short_body [] k each lt = absurd (omega (arith, lt))
short_body (b ∷ bodies) zero each lt = each.0
short_body (b ∷ bodies) (suc k) each lt = short_body bodies k each.1 (omega (arith, lt))

-- the body of a record that was found
abbrev front_body : Option (List ℕ × List ℕ) → List ℕ
front_body None = []
front_body (Some record_and_rest) = record_and_rest.0

module _ (owner count gate : ℕ) (file : List ℕ) (held : IsHeld owner count gate file) (k : ℕ) (lt : k < count) (place : ℕ) (at : place ≡ place_behind (take k (kept_of file))) where
  abbrev K : Bodies
  K = held.bodies

  abbrev body : List ℕ
  body = body_of K k

  abbrev tail : List ℕ
  tail = records (drop (suc k) K) ++ held.is_file.gate ∷ held.is_file.rest

  kept : kept_of file ≡ K
  kept = kept_is owner file K held.is_file

  within : k < length K
  within = omega (arith, lt, held.counted)

  there : place ≡ place_behind (take k K)
  there = at ∙ ap (λ (l : Bodies). place_behind (take k l)) kept

  abbrev front : List ℕ
  front = head_of owner ++ records (take k K)

  front_size : length front ≡ place
  front_size = omega (arith, there, length-append (head_of owner) (records (take k K)), length-head owner)

  whole : file ≡ front ++ (record_of body ++ tail)
  whole =
      let gate_on = held.is_file.gate ∷ held.is_file.rest in
      let R = records (drop (suc k) K) in
      held.is_file.stands
      ∙ append_assoc (head_of owner) (records K) gate_on
      ∙ ap (λ (l : List ℕ). head_of owner ++ (l ++ gate_on)) (split K k within)
      ∙ ap (λ (l : List ℕ). head_of owner ++ l) (append_assoc (records (take k K)) (record_of body ++ R) gate_on ∙ ap (λ (l : List ℕ). records (take k K) ++ l) (append_assoc (record_of body) R gate_on))
      ∙ sym (append_assoc (head_of owner) (records (take k K)) (record_of body ++ tail))

  pub stands : drop place file ≡ record_of body ++ tail
  stands = ap (λ (l : List ℕ). drop place l) whole ∙ drop_at front (record_of body ++ tail) place front_size

  pub short : length body ≤ longest_body
  short = short_body K k held.is_file.room.each within

  pub next_place : place + 5 + length body ≡ place_behind (take (k + 1) (kept_of file))
  next_place =
      let one : k + 1 ≡ suc k = omega arith in
      let grown : place + 5 + length body ≡ place_behind (take (suc k) K) = omega (arith, there, more K k within) in
      grown ∙ ap (λ (l : Bodies). place_behind (take (suc k) l)) (sym kept) ∙ ap (λ (n : ℕ). place_behind (take n (kept_of file))) (sym one)

  pub next_within : place + 5 + length body ≤ gate
  next_within = omega (arith, there, held.gate_at, ap length (split K k within), length-append (records (take k K)) (record_of body ++ records (drop (suc k) K)), length-append (record_of body) (records (drop (suc k) K)), length-record body)

  -- the body is read
  pub body_read : take (length body) (drop (place + 5) file) ≡ body
  body_read =
      let size : length (front ++ (1 ∷ u32_bytes (length body))) ≡ place + 5 = omega (arith, length-append front (1 ∷ u32_bytes (length body)), front_size, four) in
      let again : file ≡ (front ++ (1 ∷ u32_bytes (length body))) ++ (body ++ tail) = whole ∙ ap (λ (l : List ℕ). front ++ l) (append_assoc (1 ∷ u32_bytes (length body)) body tail) ∙ sym (append_assoc front (1 ∷ u32_bytes (length body)) (body ++ tail)) in
      ap (λ (l : List ℕ). take (length body) (drop (place + 5) l)) again
      ∙ ap (λ (l : List ℕ). take (length body) l) (drop_at (front ++ (1 ∷ u32_bytes (length body))) (body ++ tail) (place + 5) size)
      ∙ take_at body tail (length body) refl
    where
      four : length (1 ∷ u32_bytes (length body)) ≡ 5
      four = refl

  pub body_kept : slice_get (kept_of file) k ≡ Some body
  body_kept = ap (λ (l : Bodies). slice_get l k) kept ∙ slice_get-get_or K k [] within

  -- a record is found there, with this body
  first : first_record (drop place file) ≡ Some (body, tail)
  first = ap first_record stands ∙ record_front body tail (omega (arith, short))

  pub not_closed : IsFound Closed place (Some file) → ⊥
  not_closed (g, rest, shut, is) = let e : 1 ≡ g = cc (sym stands ∙ is) in shut (sym e)

  pub found_next : (next : ℕ) → IsFound (Next next) place (Some file) → next ≡ place + 5 + length body
  found_next next (other, few, is, there_is) =
      let same : Some (body, tail) ≡ Some (other, drop next file) = sym first ∙ ap first_record there_is ∙ record_front other (drop next file) (omega (arith, few)) in
      let equal : other ≡ body = sym (ap front_body same) in
      is ∙ ap (λ (l : List ℕ). place + 5 + length l) equal

  length_is : from_be_bytes w32 (take 4 (u32_bytes (length body) ++ (body ++ tail))) ≡ length body
  length_is = ap (λ (l : List ℕ). from_be_bytes w32 l) (take_at (u32_bytes (length body)) (body ++ tail) 4 refl) ∙ from_be_bytes-to_be_bytes_4 (length body) (omega (arith, short))

  pub not_broken : gate < longest_file → IsFound Broken place (Some file) → ⊥
  not_broken low broken =
      let is : drop place file ≡ 1 ∷ (u32_bytes (length body) ++ (body ++ tail)) = stands ∙ append_assoc (1 ∷ u32_bytes (length body)) body tail in
      let no_record : IsNoRecord place (1 ∷ (u32_bytes (length body) ++ (body ++ tail))) = subst (IsNoRecord place) is broken in
      let rest_is : drop 4 (u32_bytes (length body) ++ (body ++ tail)) ≡ body ++ tail = drop_at (u32_bytes (length body)) (body ++ tail) 4 refl in
      elim no_record.1 [
        | inl few ↦ omega (arith, few, length-append (u32_bytes (length body)) (body ++ tail), four)
        | inr (inl long) ↦ omega (arith, long, length_is, short)
        | inr (inr (inl cut_off)) ↦ omega (arith, cut_off, length_is, ap length rest_is, length-append body tail)
        | inr (inr (inr far)) ↦ omega (arith, far, length_is, next_within, low)
      ]
    where
      four : length (u32_bytes (length body)) ≡ 4
      four = refl

-- where the file is told, a record stands at its place and the next one behind it
pub next_told : (told : Option (List ℕ)) (owner count gate number place next : ℕ) → IfSome told (IsHeld owner count gate) → StandsBehind told number place → number < count → IsFound (Next next) place told → IsPlaceOf told (number + 1) (Some next)
next_told None owner count gate number place next held at lt found = tt
next_told (Some file) owner count gate number place next held at lt found =
    ap Some (found_next owner count gate file held number lt place at next found ∙ next_place owner count gate file held number lt place at)

pub far_told : (told : Option (List ℕ)) (owner count gate number place next : ℕ) → IfSome told (IsHeld owner count gate) → StandsBehind told number place → number < count → IsFound (Next next) place told → gate < next → IsPlaceOf told (number + 1) None
far_told None owner count gate number place next held at lt found far = tt
far_told (Some file) owner count gate number place next held at lt found far =
    absurd (omega (arith, far, found_next owner count gate file held number lt place at next found, next_within owner count gate file held number lt place at))

pub closed_told : (told : Option (List ℕ)) (owner count gate number place : ℕ) → IfSome told (IsHeld owner count gate) → StandsBehind told number place → number < count → IsFound Closed place told → IsPlaceOf told (number + 1) None
closed_told None owner count gate number place held at lt found = tt
closed_told (Some file) owner count gate number place held at lt found = absurd (not_closed owner count gate file held number lt place at found)

pub broken_told : (told : Option (List ℕ)) (owner count gate number place : ℕ) → gate < longest_file → IfSome told (IsHeld owner count gate) → StandsBehind told number place → number < count → IsFound Broken place told → IsPlaceOf told (number + 1) None
broken_told None owner count gate number place low held at lt found = tt
broken_told (Some file) owner count gate number place low held at lt found = absurd (not_broken owner count gate file held number lt place at low found)

-- a place is missing only where nothing is told
pub none_told : (told : Option (List ℕ)) (m n : ℕ) → IsPlaceOf told m None → IsPlaceOf told n None
none_told None m n none = tt
none_told (Some file) m n none = absurd (cc none)

pub stands_told : (told : Option (List ℕ)) (n place : ℕ) → StandsBehind told n place → IsPlaceOf told n (Some place)
stands_told None n place at = tt
stands_told (Some file) n place at = ap Some at

pub told_stands : (told : Option (List ℕ)) (n place : ℕ) → IsPlaceOf told n (Some place) → StandsBehind told n place
told_stands None n place is = tt
told_stands (Some file) n place is = let same : place ≡ place_behind (take n (kept_of file)) = cc is in same

-- the bytes between a record's length and the next record are its body
pub body_told : (told : Option (List ℕ)) (owner count gate number place next size : ℕ) (bytes : List ℕ) → IfSome told (IsHeld owner count gate) → IsPlaceOf told number (Some place) → number < count → IsPlaceOf told (number + 1) (Some next)
    → size ≡ next - place - 5 → IfSome told (λ file. bytes ≡ take size (drop (place + 5) file)) → IsBodyOf told number bytes
body_told None owner count gate number place next size bytes held at lt behind is read = tt
body_told (Some file) owner count gate number place next size bytes held at lt behind is read =
    let here : place ≡ place_behind (take number (kept_of file)) = cc at in
    let there : next ≡ place_behind (take (number + 1) (kept_of file)) = cc behind in
    let step = next_place owner count gate file held number lt place here in
    let long : size ≡ length (body_of held.bodies number) = omega (arith, is, there, step) in
    body_kept owner count gate file held number lt place here
    ∙ ap Some (sym (read ∙ ap (λ (n : ℕ). take n (drop (place + 5) file)) long ∙ body_read owner count gate file held number lt place here))
