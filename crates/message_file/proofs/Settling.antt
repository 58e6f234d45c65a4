-- What a file keeps while it is cut behind its records.
use Rattle.std.proofs.Common.{◌≡◌, ℕ, ◌+◌, ◌≤◌, List, [], ◌∷◌, ◌++◌, length, take, drop, refl, sym, ◌∙◌, ap, arith}
use Rattle.std.proofs.Common.{append_assoc, length-append, take-append-drop, Some, None, IfSome}
use Rattle.std.specs.declared.option.Option.{Option}
use Rattle.std.proofs.lemmas.List.{take_at, take_all}
use Rattle.outside.specs.Files.{Told, Only, Keeps, Cut}
use Rattle.message_file.specs.Files.{head_of, records, IsFileOf, IsAtRest}
use Rattle.message_file.specs.Attaching.{EndAt, KeepSame, KeepSameOf}

module _ (owner count gate : ℕ) (file : List ℕ) (end : EndAt owner count gate file) where
  abbrev K : List (List ℕ)
  K = end.before.bodies

  abbrev front : List ℕ
  front = head_of owner ++ records K

  size : length front ≡ gate
  size = omega (arith, length-append (head_of owner) (records K), end.before.behind)

  whole : file ≡ front ++ end.closed.0 ∷ end.closed.1
  whole = end.before.stands ∙ ap (λ (l : List ℕ). front ++ l) end.closed.3

  first_part : take (gate + 1) file ≡ front ++ end.closed.0 ∷ []
  first_part =
      ap (λ (l : List ℕ). take (gate + 1) l) (whole ∙ sym (append_assoc front (end.closed.0 ∷ []) end.closed.1))
      ∙ take_at (front ++ end.closed.0 ∷ []) end.closed.1 (gate + 1) (omega (arith, size, length-append front (end.closed.0 ∷ [])))

  keeps_front : (new : List ℕ) → take (gate + 1) new ≡ take (gate + 1) file → IsFileOf owner new K
  keeps_front new same = record {
    gate = end.closed.0;
    rest = drop (gate + 1) new;
    closed = end.closed.2;
    stands = sym (take-append-drop (gate + 1) new) ∙ ap (λ (l : List ℕ). l ++ drop (gate + 1) new) (same ∙ first_part) ∙ append_assoc front (end.closed.0 ∷ []) (drop (gate + 1) new);
    room = end.before.room;
  }

  pub keep_same : (new : List ℕ) → take (gate + 1) new ≡ take (gate + 1) file → KeepSame owner file new
  keep_same new same = record { bodies = K; before = keeps_front file refl; after = keeps_front new same }

  long : gate + 1 ≤ length file
  long = omega (arith, ap length whole, length-append front (end.closed.0 ∷ end.closed.1), size)

  pub cut_same : (new : List ℕ) → new ≡ take (gate + 1) file → take (gate + 1) new ≡ take (gate + 1) file
  cut_same new is = ap (λ (l : List ℕ). take (gate + 1) l) is ∙ take_all (gate + 1) (take (gate + 1) file) (omega (arith, ap length first_part, length-append front (end.closed.0 ∷ []), size))

  pub cut_rest : (new : List ℕ) (left : List ℕ → Type 0) → new ≡ take (gate + 1) file → Only new left → IsAtRest owner count gate new left
  cut_rest new left is only = record {
    bodies = K;
    is_file = keeps_front new (cut_same new is);
    counted = end.before.counted;
    gate_at = end.before.behind;
    ends = omega (arith, ap length (is ∙ first_part), length-append front (end.closed.0 ∷ []), size);
    durable = only;
  }

pub settle_left : (told : Option (List ℕ)) (owner count gate : ℕ) (left : List ℕ → Type 0) → IfSome told (EndAt owner count gate) → IfSome told (λ file. Only file left) → (file was : List ℕ) → left was → Cut (gate + 1) was file → KeepSameOf owner told file
settle_left None owner count gate left end only file was from cut = tt
settle_left (Some old) owner count gate left end only file was from cut =
    keep_same owner count gate old end file (cut.before ∙ ap (λ (l : List ℕ). take (gate + 1) l) (only was from))

pub settle_start : (told : Option (List ℕ)) (owner count gate : ℕ) (left : List ℕ → Type 0) → IfSome told (EndAt owner count gate) → IfSome told (λ file. Only file left) → (file : List ℕ) → left file → KeepSameOf owner told file
settle_start None owner count gate left end only file from = tt
settle_start (Some old) owner count gate left end only file from =
    keep_same owner count gate old end file (ap (λ (l : List ℕ). take (gate + 1) l) (only file from))

pub settle_same : (told new : Option (List ℕ)) (owner count gate : ℕ) → IfSome told (EndAt owner count gate) → Told (Keeps (gate + 1)) told new → Told (KeepSame owner) told new
settle_same None None owner count gate end cut = tt
settle_same None (Some n) owner count gate end cut = cut
settle_same (Some o) None owner count gate end cut = cut
settle_same (Some o) (Some n) owner count gate end cut = keep_same owner count gate o end n (cut_same owner count gate o end n cut)

pub settle_rest : (told new : Option (List ℕ)) (owner count gate : ℕ) (left : List ℕ → Type 0) → IfSome told (EndAt owner count gate) → Told (Keeps (gate + 1)) told new → IfSome new (λ file. Only file left) → IfSome new (λ file. IsAtRest owner count gate file left)
settle_rest None None owner count gate left end cut only = tt
settle_rest None (Some n) owner count gate left end cut only = absurd cut
settle_rest (Some o) None owner count gate left end cut only = tt
settle_rest (Some o) (Some n) owner count gate left end cut only = cut_rest owner count gate o end n left cut only
