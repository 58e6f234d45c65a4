-- What files of records keep.
use Rattle.std.proofs.Common.{◌≡◌, ◌≢◌, ℕ, zero, suc, ◌+◌, ◌*◌, ◌<◌, ◌≤◌, ◌^◌, true, ◌==◌, ◌&&◌, nat_le, if◌then◌else◌, List, [], ◌∷◌, ◌++◌, length, take, drop, refl, sym, ◌∙◌, ap, arith, append_assoc, length-append, Some, None}
use Rattle.std.specs.declared.option.Option.{Option}
use Rattle.std.specs.List.{AllByRecursion}
use Rattle.std.specs.Int.{w32, from_be_bytes, to_be_bytes}
use Rattle.std.proofs.lemmas.Nat.{from_be_bytes-to_be_bytes_4}
use Rattle.std.proofs.lemmas.Bool.Decides.{nat_tests}
use Rattle.std.proofs.lemmas.List.{take_at, drop_at}
use Rattle.outside.specs.Records.{longest_body}
use Rattle.outside.specs.Kept.{Bodies}
use Rattle.message_file.specs.Files.{head_of, record_of, records, IsFileOf, first_record, first_bodies, kept_of}

-- a closed gate begins no record
pub closed_none : (gate : ℕ) (rest : List ℕ) → gate ≢ 1 → first_record (gate ∷ rest) ≡ None
closed_none gate [] shut = refl
closed_none gate (a ∷ []) shut = refl
closed_none gate (a ∷ b ∷ []) shut = refl
closed_none gate (a ∷ b ∷ c ∷ []) shut = refl
closed_none gate (a ∷ b ∷ c ∷ d ∷ rest) shut = grind (arith, nat_tests)

abbrev cut_at : ℕ → List ℕ → Option (List ℕ × List ℕ)
cut_at n bytes = if (1 == 1) && nat_le n (length bytes) then Some (take n bytes, drop n bytes) else None

front_is : (n : ℕ) (body rest : List ℕ) → n ≡ length body → cut_at n (body ++ rest) ≡ Some (body, rest)
front_is n body rest is =
    let fits : nat_le n (length (body ++ rest)) ≡ true = grind (arith, nat_tests, is, length-append body rest) in
    rw (fits, take_at body rest n (sym is), drop_at body rest n (sym is)) refl

-- a record stands at the front
pub record_front : (body rest : List ℕ) → length body < 2 ^ 32 → first_record (record_of body ++ rest) ≡ Some (body, rest)
record_front body rest short = front_is (from_be_bytes w32 (to_be_bytes w32 (length body))) body rest (from_be_bytes-to_be_bytes_4 (length body) short)

pub records_read : (bodies : Bodies) (rest : List ℕ) (n : ℕ) → AllByRecursion (λ (body : List ℕ). length body ≤ longest_body) bodies → first_record rest ≡ None → length bodies ≤ n → first_bodies n (records bodies ++ rest) ≡ bodies
records_read [] rest zero each none le = refl
records_read [] rest (suc n) each none le = rw none refl
records_read (body ∷ bodies) rest zero each none le = absurd (omega arith)
records_read (body ∷ bodies) rest (suc n) each none le =
    let front : first_record ((record_of body ++ records bodies) ++ rest) ≡ Some (body, records bodies ++ rest) =
    ap first_record (append_assoc (record_of body) (records bodies) rest) ∙ record_front body (records bodies ++ rest) (omega (arith, each.0)) in
    rw front (ap (λ (l : Bodies). body ∷ l) (records_read bodies rest n each.1 none (omega arith)))

pub length-head : (owner : ℕ) → length (head_of owner) ≡ 8
length-head owner = refl

pub length-record : (body : List ℕ) → length (record_of body) ≡ 5 + length body
length-record body = omega arith

pub enough_bytes : (bodies : Bodies) → 5 * length bodies ≤ length (records bodies)
enough_bytes [] = omega arith
enough_bytes (body ∷ bodies) = omega (arith, length-append (record_of body) (records bodies), length-record body, enough_bytes bodies)

-- the file's bodies are what is kept
pub kept_is : (owner : ℕ) (file : List ℕ) (bodies : Bodies) → IsFileOf owner file bodies → kept_of file ≡ bodies
unfolding kept_of
kept_is owner file bodies is =
    let whole : file ≡ head_of owner ++ (records bodies ++ is.gate ∷ is.rest) = is.stands ∙ append_assoc (head_of owner) (records bodies) (is.gate ∷ is.rest) in
    let behind : drop 8 file ≡ records bodies ++ is.gate ∷ is.rest = ap (λ (l : List ℕ). drop 8 l) whole ∙ drop_at (head_of owner) (records bodies ++ is.gate ∷ is.rest) 8 refl in
    let size : length bodies ≤ length file = omega (arith, ap length whole, length-append (head_of owner) (records bodies ++ is.gate ∷ is.rest), length-append (records bodies) (is.gate ∷ is.rest), enough_bytes bodies) in
    ap (λ (l : List ℕ). first_bodies (length file) l) behind
    ∙ records_read bodies (is.gate ∷ is.rest) (length file) is.room.each (closed_none is.gate is.rest is.closed) size
