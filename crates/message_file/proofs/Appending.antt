-- What a message file keeps after one record is put, or after the try failed.
use Rattle.std.proofs.Common.{◌≡◌, ◌⊎◌, inl, inr, ⊎_elim, ℕ, zero, suc, ◌+◌, ◌<◌, ◌≤◌, true, false, List, [], ◌∷◌, ◌++◌, length, take, refl, sym, ◌∙◌, ap, arith, length-append, map, sum, Some, None, IfSome, option_map, OnOk, OnErr, Result, Ok, Err, is_err}
use Rattle.std.specs.declared.option.Option.{Option}
use Rattle.std.specs.List.{sum_by}
use Rattle.std.proofs.lemmas.List.Concat.{length-flat_map}
use Rattle.std.proofs.lemmas.List.Sums.{sum-map, sum_by-cons}
use Rattle.std.proofs.lemmas.List.{take_all, take_at, length-take-le}
use Rattle.lemmas.proofs.Lists.{take_less}
use Rattle.model.specs.Fields.{u32_bytes}
use Rattle.outside.specs.Records.{longest_body, longest_file, piece_of}
use Rattle.outside.specs.Kept.{Bodies, with_body, KeptOrWith, IsKept, size_of}
use Rattle.outside.specs.Files.{Only, Told}
use Rattle.outside.specs.Stops.{LeavesOnly}
use Rattle.message_file.specs.Files.{kept_of, record_of, records, place_behind, IsAtRest, KeepsAtLeast}
use Rattle.message_file.specs.State.{kept_in, StandsBehind, KeptLeft}
use Rattle.gated_puts.specs.Steps.{IsStaged, StagedOf, EndsAt, Opened}
use Rattle.message_file.proofs.Reading.{kept_is}
use Rattle.message_file.proofs.Putting.{opened_rest, opened_file, staged_keeps}

pub on_ok_is : {X Y P : Type 0} (r : Result X Y) → is_err r ≡ false → OnOk r P → P
on_ok_is (Ok x) is p = p
on_ok_is (Err y) is p = absurd (cc is)

pub on_err_is : {X Y P : Type 0} (r : Result X Y) → is_err r ≡ true → OnErr r P → P
on_err_is (Ok x) is p = absurd (cc is)
on_err_is (Err y) is p = p

pub length-piece : (body : List ℕ) → length (piece_of body) ≡ 5 + length body
length-piece body = omega (arith, length-append (u32_bytes (length body) ++ body) (0 ∷ []), length-append (u32_bytes (length body)) body, four)
  where
    four : length (u32_bytes (length body)) ≡ 4
    four = refl

length-record : (body : List ℕ) → length (record_of body) ≡ 5 + length body
length-record body = omega (arith, length-append (u32_bytes (length body)) body, four)
  where
    four : length (u32_bytes (length body)) ≡ 4
    four = refl

by_each : (bodies : Bodies) → sum_by (λ (body : List ℕ). length (record_of body)) bodies ≡ sum_by (λ (body : List ℕ). 5 + length body) bodies
by_each [] = refl
by_each (body ∷ bodies) = omega (arith, sum_by-cons (λ (b : List ℕ). length (record_of b)) body bodies, sum_by-cons (λ (b : List ℕ). 5 + length b) body bodies, length-record body, by_each bodies)

-- the records of bodies have five bytes and its own for each
size_behind : (bodies : Bodies) → place_behind bodies + 1 ≡ size_of bodies
size_behind bodies = omega (arith, each bodies)
  where
    each : (bodies : Bodies) → length (records bodies) ≡ sum (map (λ (body : List ℕ). 5 + length body) bodies)
    each bodies = length-flat_map record_of bodies ∙ by_each bodies ∙ sym (sum-map (λ (body : List ℕ). 5 + length body) bodies)

module _ (owner count gate : ℕ) where
  abbrev Rests : Option (List ℕ) → (List ℕ → Type 0) → Type 0
  Rests told left = IfSome told (λ file. IsAtRest owner count gate file left)

  pub ends : (told : Option (List ℕ)) (left : List ℕ → Type 0) → Rests told left → IfSome told (λ file. EndsAt gate file left)
  ends None left rest = tt
  ends (Some file) left rest = record { end = rest.ends; durable = rest.durable }

  pub kept_at_rest : (file : List ℕ) (left : List ℕ → Type 0) (rest : IsAtRest owner count gate file left) → take count (kept_of file) ≡ rest.bodies
  kept_at_rest file left rest = ap (λ (l : Bodies). take count l) (kept_is owner file rest.bodies rest.is_file) ∙ take_all count rest.bodies (omega (arith, rest.counted))

  pub keeps_at_rest : (told : Option (List ℕ)) (left : List ℕ → Type 0) → Rests told left → IfSome told (KeepsAtLeast owner count)
  keeps_at_rest None left rest = tt
  keeps_at_rest (Some file) left rest = record { bodies = rest.bodies; is_file = rest.is_file; enough = omega (arith, rest.counted) }

  pub counted : (told : Option (List ℕ)) → IfSome told (KeepsAtLeast owner count) → IfSome (kept_in told count) (λ bodies. length bodies ≡ count)
  counted None keeps = tt
  counted (Some file) keeps =
      ap (λ (l : Bodies). length (take count l)) (kept_is owner file keeps.bodies keeps.is_file) ∙ length-take-le count keeps.bodies keeps.enough

  -- its size is that of what is kept
  pub sized : (told : Option (List ℕ)) (left : List ℕ → Type 0) → Rests told left → IfSome (kept_in told count) (λ bodies. gate + 1 ≡ size_of bodies)
  sized None left rest = tt
  sized (Some file) left rest = omega (arith, rest.gate_at, size_behind rest.bodies, ap size_of (kept_at_rest file left rest))

  -- a stop leaves what is kept
  pub rest_kept : (told : Option (List ℕ)) (left : List ℕ → Type 0) → Rests told left → (bodies : Bodies) → KeptLeft left bodies → IsKept (kept_in told count) bodies
  rest_kept None left rest bodies kept = tt
  rest_kept (Some file) left rest bodies kept =
      kept.2 ∙ ap kept_of (rest.durable kept.0 kept.1) ∙ kept_is owner file rest.bodies rest.is_file ∙ sym (kept_at_rest file left rest)

  module _ (body : List ℕ) (short : length body ≤ longest_body) (fits : gate + 5 + length body < longest_file) where
    pub staged_kept : (told : Option (List ℕ)) (left : List ℕ → Type 0) → Rests told left → (file : List ℕ) → StagedOf gate (piece_of body) told file → (bodies : Bodies) → bodies ≡ kept_of file → KeptOrWith (kept_in told count) body bodies
    staged_kept None left rest file staged bodies is = tt
    staged_kept (Some old) left rest file staged bodies is =
        elim (staged_keeps owner count gate old left rest body short fits file staged) [
          | inl same ↦ inl (is ∙ kept_is owner file rest.bodies same ∙ sym (kept_at_rest old left rest))
          | inr more ↦ inr (is ∙ kept_is owner file (with_body body rest.bodies) more ∙ ap (with_body body) (sym (kept_at_rest old left rest)))
        ]

    staged_front : (old new : List ℕ) (left : List ℕ → Type 0) (rest : IsAtRest owner count gate old left) → IsStaged gate (piece_of body) old new → (take count (kept_of new) ≡ take count (kept_of old)) × KeepsAtLeast owner count new
    staged_front old new left rest staged =
        let K = rest.bodies in
        elim (staged_keeps owner count gate old left rest body short fits new staged) [
          | inl same ↦ (
            ap (λ (l : Bodies). take count l) (kept_is owner new K same ∙ sym (kept_is owner old K rest.is_file)),
            record { bodies = K; is_file = same; enough = omega (arith, rest.counted) },
          )
          | inr more ↦ (
            ap (λ (l : Bodies). take count l) (kept_is owner new (with_body body K) more) ∙ take_at K (body ∷ []) count (sym rest.counted) ∙ sym (kept_at_rest old left rest),
            record { bodies = with_body body K; is_file = more; enough = omega (arith, rest.counted, length-append K (body ∷ [])) },
          )
        ]

    pub staged_same : (old new : Option (List ℕ)) (left : List ℕ → Type 0) → Rests old left → Told (IsStaged gate (piece_of body)) old new → kept_in new count ≡ kept_in old count
    staged_same None None left rest told = refl
    staged_same None (Some n) left rest told = absurd told
    staged_same (Some o) None left rest told = absurd told
    staged_same (Some o) (Some n) left rest told = ap Some (staged_front o n left rest told).0

    pub staged_keeping : (old new : Option (List ℕ)) (left : List ℕ → Type 0) → Rests old left → Told (IsStaged gate (piece_of body)) old new → IfSome new (KeepsAtLeast owner count)
    staged_keeping None None left rest told = tt
    staged_keeping None (Some n) left rest told = absurd told
    staged_keeping (Some o) None left rest told = tt
    staged_keeping (Some o) (Some n) left rest told = (staged_front o n left rest told).1

    pub opened_rests : (old new : Option (List ℕ)) (left now : List ℕ → Type 0) → Rests old left → Told (Opened gate (piece_of body)) old new → IfSome new (λ file. Only file now) → IfSome new (λ file. IsAtRest owner (count + 1) (gate + 5 + length body) file now)
    opened_rests None None left now rest told only = tt
    opened_rests None (Some n) left now rest told only = absurd told
    opened_rests (Some o) None left now rest told only = tt
    opened_rests (Some o) (Some n) left now rest told only = opened_rest owner count gate o left rest body short fits n now told only

    opened_bodies : (o n : List ℕ) (left : List ℕ → Type 0) (rest : IsAtRest owner count gate o left) → Opened gate (piece_of body) o n → kept_of n ≡ with_body body rest.bodies
    opened_bodies o n left rest told = kept_is owner n (with_body body rest.bodies) (opened_file owner count gate o left rest body short fits n told)

    pub opened_kept : (old new : Option (List ℕ)) (left : List ℕ → Type 0) → Rests old left → Told (Opened gate (piece_of body)) old new → kept_in new (count + 1) ≡ option_map (with_body body) (kept_in old count)
    opened_kept None None left rest told = refl
    opened_kept None (Some n) left rest told = absurd told
    opened_kept (Some o) None left rest told = absurd told
    opened_kept (Some o) (Some n) left rest told =
        ap Some (ap (λ (l : Bodies). take (count + 1) l) (opened_bodies o n left rest told)
        ∙ take_all (count + 1) (with_body body rest.bodies) (omega (arith, rest.counted, length-append rest.bodies (body ∷ [])))
        ∙ ap (with_body body) (sym (kept_at_rest o left rest)))

    -- a place among the records stays
    pub opened_stands : (old new : Option (List ℕ)) (left : List ℕ → Type 0) (next place : ℕ) → Rests old left → Told (Opened gate (piece_of body)) old new → next ≤ count → StandsBehind old next place → StandsBehind new next place
    opened_stands None None left next place rest told le stands = tt
    opened_stands None (Some n) left next place rest told le stands = absurd told
    opened_stands (Some o) None left next place rest told le stands = tt
    opened_stands (Some o) (Some n) left next place rest told le stands =
        let K = rest.bodies in
        stands ∙ ap (λ (l : Bodies). place_behind (take next l)) (kept_is owner o K rest.is_file)
        ∙ ap place_behind (sym (take_front K (body ∷ []) next (omega (arith, le, rest.counted))) ∙ ap (λ (l : Bodies). take next l) (sym (opened_bodies o n left rest told)))
      where
        take_front : (xs ys : Bodies) (n : ℕ) → n ≤ length xs → take n (xs ++ ys) ≡ take n xs
        take_front xs ys zero le = refl
        take_front [] ys (suc n) le = absurd (omega (arith, le))
        take_front (x ∷ xs) ys (suc n) le = ap (λ (l : Bodies). x ∷ l) (take_front xs ys n (omega (arith, le)))

    pub staged_stands : (old new : Option (List ℕ)) (left : List ℕ → Type 0) (next place : ℕ) → Rests old left → Told (IsStaged gate (piece_of body)) old new → next ≤ count → StandsBehind old next place → StandsBehind new next place
    staged_stands None None left next place rest told le stands = tt
    staged_stands None (Some n) left next place rest told le stands = absurd told
    staged_stands (Some o) None left next place rest told le stands = tt
    staged_stands (Some o) (Some n) left next place rest told le stands =
        stands ∙ ap place_behind (sym (take_less next count (kept_of o) le) ∙ ap (λ (l : Bodies). take next l) (sym (staged_front o n left rest told).0) ∙ take_less next count (kept_of n) le)

-- what a stop left of a file is what it left of its bodies
pub moments : {D : Type 0} (moment : D → ℕ) (left_since : D → ℕ → List ℕ → Type 0) (old new : D) (P : List ℕ → Type 0) (Q : Bodies → Type 0)
    → LeavesOnly moment left_since old new P → ((file : List ℕ) → P file → (bodies : Bodies) → bodies ≡ kept_of file → Q bodies)
    → (t : ℕ) → (left : Bodies) → t ≤ moment old → KeptLeft (left_since new t) left → KeptLeft (left_since old t) left ⊎ Q left
moments moment left_since old new P Q only within t left le kept =
    ⊎_elim (λ was. inl (kept.0, was, kept.2)) (λ p. inr (within kept.0 p left kept.2)) (only.before t kept.0 le kept.1)
