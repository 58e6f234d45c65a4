-- What a stop leaves of a file while one record is put at its end.
use Rattle.std.proofs.Common.{◌≡◌, ℕ, ◌+◌, ◌<◌, min, List, [], ◌∷◌, ◌++◌, length, get_or, take, drop, refl, sym, ◌∙◌}
use Rattle.std.proofs.Common.{ap, subst, arith, take-append-drop, length-append, append_assoc, Some, None, IfSome}
use Rattle.std.specs.declared.option.Option.{Option}
use Rattle.std.proofs.lemmas.List.{take_all, drop_all, drop_more, take_at, drop_at, length-take-le}
use Rattle.outside.specs.Files.{Told, Holds, Torn, Only, Follows}
use Rattle.outside.specs.Stops.{Elapses, LeavesOnly}
use Rattle.gated_puts.specs.Steps.{EndsAt, HasPiece, Opened, Behind, Stands, StandsOf, IsGated, GatedOf}
use Rattle.gated_puts.proofs.Moments.{started, goes_on}

pub torn_behind : (place n : ℕ) (old new : List ℕ) → length old ≡ place + 1 → Torn (place + 1) n old new → Stands old new
torn_behind place n old new size torn =
    let same : min (place + 1) (length old) ≡ length old = omega (arith, size) in
    ap (λ (k : ℕ). take k new) (sym same) ∙ torn.before ∙ take_all (place + 1) old (omega (arith, size))

pub torn_gate : (place : ℕ) (piece old new : List ℕ) (gate : ℕ) → old ≡ take place old ++ gate ∷ piece → place < length old → Torn place 1 old new → IsGated place piece old new
torn_gate place piece old new gate stands within torn =
    let same : min place (length old) ≡ place = omega (arith, within) in
    let front : take place new ≡ take place old = ap (λ (k : ℕ). take k new) (sym same) ∙ torn.before in
    let size : length (take place old) ≡ place = length-take-le place old (omega (arith, within)) in
    let behind : drop (place + 1) old ≡ piece =
    ap (λ (l : List ℕ). drop (place + 1) l) (stands ∙ sym (assoc_one (take place old) gate piece)) ∙ drop_at (take place old ++ gate ∷ []) piece (place + 1) (omega (arith, size, length-append (take place old) (gate ∷ []))) in
    let byte = get_or new place 0 in
    let rest : drop place new ≡ byte ∷ piece = drop_more new place 0 (omega (arith, within, torn.no_shorter)) ∙ ap (λ (l : List ℕ). byte ∷ l) (torn.after ∙ behind) in
    (byte, sym (take-append-drop place new) ∙ ap (λ (l : List ℕ). l ++ drop place new) front ∙ ap (λ (l : List ℕ). take place old ++ l) rest)
  where
    assoc_one : (xs : List ℕ) (x : ℕ) (ys : List ℕ) → (xs ++ x ∷ []) ++ ys ≡ xs ++ x ∷ ys
    assoc_one [] x ys = refl
    assoc_one (y ∷ xs) x ys = ap (λ (l : List ℕ). y ∷ l) (assoc_one xs x ys)

pub stage_left : (told : Option (List ℕ)) (may_leave : List ℕ → Type 0) (place n : ℕ) → IfSome told (λ file. EndsAt place file may_leave) → (file was : List ℕ) → may_leave was → Torn (place + 1) n was file → StandsOf told file
stage_left None may_leave place n ends file was left torn = tt
stage_left (Some old) may_leave place n ends file was left torn = torn_behind place n old file ends.end (subst (λ (l : List ℕ). Torn (place + 1) n l file) (ends.durable was left) torn)

pub stage_start : (told : Option (List ℕ)) (may_leave : List ℕ → Type 0) (place : ℕ) → IfSome told (λ file. EndsAt place file may_leave) → (file : List ℕ) → may_leave file → StandsOf told file
stage_start None may_leave place ends file left = tt
stage_start (Some old) may_leave place ends file left = ap (λ (l : List ℕ). take (length old) l) (ends.durable file left) ∙ take_all (length old) old (omega arith)

pub gate_left : (told : Option (List ℕ)) (may_leave : List ℕ → Type 0) (place : ℕ) (piece : List ℕ) → IfSome told (λ file. HasPiece place piece file may_leave) → (file was : List ℕ) → may_leave was → Torn place 1 was file → GatedOf place piece told file
gate_left None may_leave place piece has file was left torn = tt
gate_left (Some old) may_leave place piece has file was left torn = torn_gate place piece old file has.gate has.stands has.within (subst (λ (l : List ℕ). Torn place 1 l file) (has.durable was left) torn)

pub gate_start : (told : Option (List ℕ)) (may_leave : List ℕ → Type 0) (place : ℕ) (piece : List ℕ) → IfSome told (λ file. HasPiece place piece file may_leave) → (file : List ℕ) → may_leave file → GatedOf place piece told file
gate_start None may_leave place piece has file left = tt
gate_start (Some old) may_leave place piece has file left = (has.gate, has.durable file left ∙ has.stands)

pub gate_told : (old new : Option (List ℕ)) (may_leave : List ℕ → Type 0) (place : ℕ) (piece : List ℕ) → IfSome old (λ file. HasPiece place piece file may_leave) → Told (Torn place 1) old new → Told (IsGated place piece) old new
gate_told None None may_leave place piece has torn = tt
gate_told None (Some n) may_leave place piece has torn = torn
gate_told (Some o) None may_leave place piece has torn = torn
gate_told (Some o) (Some n) may_leave place piece has torn = torn_gate place piece o n has.gate has.stands has.within torn

behind_gate : (place : ℕ) (piece file : List ℕ) (gate : ℕ) → file ≡ take place file ++ gate ∷ piece → place < length file → drop (place + 1) file ≡ piece
behind_gate place piece file gate stands within =
    let size : length (take place file) ≡ place = length-take-le place file (omega (arith, within)) in
    ap (λ (l : List ℕ). drop (place + 1) l) (stands ∙ sym (assoc_one (take place file) gate piece)) ∙ drop_at (take place file ++ gate ∷ []) piece (place + 1) (omega (arith, size, length-append (take place file) (gate ∷ [])))
  where
    assoc_one : (xs : List ℕ) (x : ℕ) (ys : List ℕ) → (xs ++ x ∷ []) ++ ys ≡ xs ++ x ∷ ys
    assoc_one [] x ys = refl
    assoc_one (y ∷ xs) x ys = ap (λ (l : List ℕ). y ∷ l) (assoc_one xs x ys)

pub gate_opened : (old new : Option (List ℕ)) (may_leave : List ℕ → Type 0) (place : ℕ) (piece : List ℕ) → IfSome old (λ file. HasPiece place piece file may_leave) → Told (Holds place (1 ∷ [])) old new → Told (Opened place piece) old new
gate_opened None None may_leave place piece has holds = tt
gate_opened None (Some n) may_leave place piece has holds = holds
gate_opened (Some o) None may_leave place piece has holds = holds
gate_opened (Some o) (Some n) may_leave place piece has holds =
    holds ∙ append_assoc (take place o) (1 ∷ []) (drop (place + 1) o) ∙ ap (λ (l : List ℕ). take place o ++ 1 ∷ l) (behind_gate place piece o has.gate has.stands has.within)

-- what was opened, torn or staged is one of the files that may be read
pub gated_same : (old mid new : Option (List ℕ)) (place : ℕ) (piece : List ℕ) → Told (IsGated place piece) old mid → new ≡ mid → Told (IsGated place piece) old new
gated_same old mid new place piece told same = subst (λ o. Told (IsGated place piece) old o) (sym same) told

pub opened_gated : (old new : Option (List ℕ)) (place : ℕ) (piece : List ℕ) → Told (Opened place piece) old new → Told (IsGated place piece) old new
opened_gated None None place piece told = tt
opened_gated None (Some n) place piece told = told
opened_gated (Some o) None place piece told = told
opened_gated (Some o) (Some n) place piece told = (1, told)

-- behind the file's last byte stands the piece
pub piece_behind : (old new : Option (List ℕ)) (left : List ℕ → Type 0) (may_leave : List ℕ → Type 0) (place : ℕ) (piece : List ℕ) → IfSome old (λ file. EndsAt place file left) → Told (Behind piece) old new → IfSome new (λ file. Only file may_leave) → IfSome new (λ file. HasPiece place piece file may_leave)
piece_behind None None left may_leave place piece ends behind only = tt
piece_behind None (Some n) left may_leave place piece ends behind only = absurd behind
piece_behind (Some o) None left may_leave place piece ends behind only = tt
piece_behind (Some o) (Some n) left may_leave place piece ends behind only =
    let gate = get_or o place 0 in
    let last : drop place o ≡ gate ∷ [] = drop_more o place 0 (omega (arith, ends.end)) ∙ ap (λ (l : List ℕ). gate ∷ l) (drop_all (place + 1) o (omega (arith, ends.end))) in
    let size : length (take place o) ≡ place = length-take-le place o (omega (arith, ends.end)) in
    let whole : n ≡ take place o ++ gate ∷ piece = behind ∙ ap (λ (l : List ℕ). l ++ piece) (sym (take-append-drop place o) ∙ ap (λ (l : List ℕ). take place o ++ l) last) ∙ append_assoc (take place o) (gate ∷ []) piece in
    record {
      gate = gate;
      stands = whole ∙ ap (λ (l : List ℕ). l ++ gate ∷ piece) (sym (take_at (take place o) (gate ∷ piece) place size) ∙ ap (λ (l : List ℕ). take place l) (sym whole));
      within = omega (arith, ap length behind, length-append o piece, ends.end);
      durable = only;
    }

-- a write and a sync, over a disk before, between and after
module _ {S : Type 0} (moment : S → ℕ) (left_since : S → ℕ → List ℕ → Type 0) (may_leave : S → List ℕ → Type 0)
    (only_now : (s : S) (file : List ℕ) → left_since s (moment s) file → may_leave s file) (P : List ℕ → Type 0) (step : List ℕ → List ℕ → Type 0)
    (old mid new : S) (start : (file : List ℕ) → may_leave old file → P file)
    (steps : (file was : List ℕ) → may_leave old was → step was file → P file)
    (crash : Follows step (may_leave old) (may_leave mid))
    (time : Elapses (moment old) (moment mid) (left_since old) (left_since mid) (may_leave mid)) where
  pub left_between : (file : List ℕ) → may_leave mid file → P file
  left_between file left = let from = crash file left in steps file from.0 from.1 from.2

  pub moments_between : LeavesOnly moment left_since old mid P
  moments_between = goes_on moment left_since old old mid P (may_leave mid) (started moment left_since old P (λ file left. start file (only_now old file left))) time left_between

  pub moments_after : ((file : List ℕ) → may_leave new file → may_leave mid file) → Elapses (moment mid) (moment new) (left_since mid) (left_since new) (may_leave new) → LeavesOnly moment left_since old new P
  moments_after same later = goes_on moment left_since old mid new P (may_leave new) moments_between later (λ file left. left_between file (same file left))
