-- What files of records keep while one more is put.
use Rattle.std.proofs.Common.{◌≡◌, ◌≢◌, inl, inr, ℕ, ◌+◌, ◌<◌, ◌≤◌, List, [], ◌∷◌, ◌++◌, length, take, drop, refl, sym, ◌∙◌, ap, arith, append_assoc, length-append, take-append-drop}
use Rattle.std.specs.List.{AllByRecursion}
use Rattle.std.proofs.lemmas.Bool.{cases_eq}
use Rattle.std.proofs.lemmas.List.{take_at, append-nil}
use Rattle.model.specs.Fields.{u32_bytes}
use Rattle.outside.specs.Records.{longest_body, longest_file, piece_of}
use Rattle.outside.specs.Kept.{Bodies, with_body}
use Rattle.outside.specs.Files.{Only}
use Rattle.message_file.specs.Files.{head_of, record_of, records, place_behind, HasRoom, IsFileOf, IsAtRest, KeepsOrWith}
use Rattle.gated_puts.specs.Steps.{IsStaged}
use Rattle.message_file.proofs.Reading.{length-head, length-record}

abbrev ShortBodies : Bodies → Type 0
ShortBodies bodies = AllByRecursion (λ (body : List ℕ). length body ≤ longest_body) bodies

one_more : (bodies : Bodies) (body : List ℕ) → ShortBodies bodies → length body ≤ longest_body → ShortBodies (with_body body bodies)
one_more [] body each short = (short, tt)
one_more (b ∷ bodies) body each short = (each.0, one_more bodies body each.1 short)

pub records_with : (bodies : Bodies) (body : List ℕ) → records (with_body body bodies) ≡ records bodies ++ record_of body
records_with [] body = append-nil (record_of body)
records_with (b ∷ bodies) body = ap (λ (l : List ℕ). record_of b ++ l) (records_with bodies body) ∙ sym (append_assoc (record_of b) (records bodies) (record_of body))

pub place_with : (bodies : Bodies) (body : List ℕ) → place_behind (with_body body bodies) ≡ place_behind bodies + 5 + length body
place_with bodies body = omega (arith, ap length (records_with bodies body), length-append (records bodies) (record_of body), length-record body)

pub room_with : (bodies : Bodies) (body : List ℕ) → HasRoom bodies → length body ≤ longest_body → place_behind bodies + 5 + length body < longest_file → HasRoom (with_body body bodies)
room_with bodies body room short fits = record { each = one_more bodies body room.each short; all = omega (arith, fits, place_with bodies body) }

-- the piece behind an open gate is a record and a closed gate
piece_opened : (owner : ℕ) (bodies : Bodies) (body : List ℕ) → (head_of owner ++ records bodies) ++ 1 ∷ piece_of body ≡ head_of owner ++ records (with_body body bodies) ++ 0 ∷ []
piece_opened owner bodies body =
    let front = head_of owner ++ records bodies in
    let piece : 1 ∷ piece_of body ≡ record_of body ++ 0 ∷ [] = refl in
    ap (λ (l : List ℕ). front ++ l) piece
    ∙ sym (append_assoc front (record_of body) (0 ∷ []))
    ∙ ap (λ (l : List ℕ). l ++ 0 ∷ []) (append_assoc (head_of owner) (records bodies) (record_of body) ∙ ap (λ (l : List ℕ). head_of owner ++ l) (sym (records_with bodies body)))

module _ (owner count gate : ℕ) (file : List ℕ) (may_leave : List ℕ → Type 0) (rest : IsAtRest owner count gate file may_leave)
    (body : List ℕ) (short : length body ≤ longest_body) (fits : gate + 5 + length body < longest_file) where
  abbrev front : List ℕ
  front = head_of owner ++ records rest.bodies

  size : length front ≡ gate
  size = omega (arith, length-append (head_of owner) (records rest.bodies), length-head owner, rest.gate_at)

  pub front_taken : take gate file ≡ front
  front_taken = ap (λ (l : List ℕ). take gate l) rest.is_file.stands ∙ take_at front (rest.is_file.gate ∷ rest.is_file.rest) gate size

  room : HasRoom (with_body body rest.bodies)
  room = room_with rest.bodies body rest.is_file.room short (omega (arith, fits, rest.gate_at))

  -- behind an open gate the piece counts
  pub opened_file : (new : List ℕ) → new ≡ take gate file ++ 1 ∷ piece_of body → IsFileOf owner new (with_body body rest.bodies)
  opened_file new is = record {
    gate = 0;
    rest = [];
    closed = λ (e : 0 ≡ 1). omega (arith, e);
    stands = is ∙ ap (λ (l : List ℕ). l ++ 1 ∷ piece_of body) front_taken ∙ piece_opened owner rest.bodies body;
    room = room;
  }

  -- once it is on the disk, the file is at rest again
  pub opened_rest : (new : List ℕ) (left : List ℕ → Type 0) → new ≡ take gate file ++ 1 ∷ piece_of body → Only new left → IsAtRest owner (count + 1) (gate + 5 + length body) new left
  opened_rest new left is only = record {
    bodies = with_body body rest.bodies;
    is_file = opened_file new is;
    counted = omega (arith, rest.counted, length-append rest.bodies (body ∷ []));
    gate_at = omega (arith, rest.gate_at, place_with rest.bodies body);
    ends = omega (arith, ap length is, length-append (take gate file) (1 ∷ piece_of body), ap length front_taken, size, length-append (u32_bytes (length body) ++ body) (0 ∷ []));
    durable = only;
  }

  -- behind a gate that is not open nothing counts
  shut_file : (new tail : List ℕ) (g : ℕ) → g ≢ 1 → new ≡ front ++ g ∷ tail → IsFileOf owner new rest.bodies
  shut_file new tail g shut is = record { gate = g; rest = tail; closed = shut; stands = is; room = rest.is_file.room }

  -- the last gate alone stands behind the records
  pub last_gate : file ≡ front ++ rest.is_file.gate ∷ []
  last_gate = rest.is_file.stands ∙ ap (λ (l : List ℕ). front ++ rest.is_file.gate ∷ l) (no_more rest.is_file.rest (omega (arith, ap length rest.is_file.stands, length-append front (rest.is_file.gate ∷ rest.is_file.rest), size, rest.ends)))
    where
      no_more : (l : List ℕ) → length l ≡ 0 → l ≡ []
      no_more [] none = refl
      no_more (x ∷ l) none = absurd (omega (arith, none))

  -- each stop leaves the bodies, or these and the new one
  pub staged_keeps : (new : List ℕ) → IsStaged gate (piece_of body) file new → KeepsOrWith owner rest.bodies body new
  staged_keeps new (inl same) =
      let whole : new ≡ front ++ rest.is_file.gate ∷ drop (gate + 1) new =
      sym (take-append-drop (gate + 1) new) ∙ ap (λ (l : List ℕ). l ++ drop (gate + 1) new) (same ∙ last_gate) ∙ append_assoc front (rest.is_file.gate ∷ []) (drop (gate + 1) new) in
      inl (shut_file new (drop (gate + 1) new) rest.is_file.gate rest.is_file.closed whole)
  staged_keeps new (inr gated) =
      elim (cases_eq gated.0 1) [
        | inl is_open ↦ inr (opened_file new (gated.1 ∙ ap (λ (g : ℕ). take gate file ++ g ∷ piece_of body) is_open))
        | inr shut ↦ inl (shut_file new (piece_of body) gated.0 shut (gated.1 ∙ ap (λ (l : List ℕ). l ++ gated.0 ∷ piece_of body) front_taken))
      ]
