-- The records at the front of a file, one further and at their end.
use Rattle.std.proofs.Common.{◌≡◌, ◌∙◌, ◌+◌, ◌∷◌, ◌++◌, [], ℕ, List, None, Option, Some, IfSome, ap, append_assoc, arith, drop, inl, inr}
use Rattle.std.proofs.Common.{length, refl, sym}
use Rattle.std.proofs.lemmas.List.{append-nil, drop-drop}
use Rattle.outside.specs.Files.{Told}
use Rattle.outside.specs.Kept.{Bodies, with_body}
use Rattle.message_file.specs.Files.{BreaksAt, HasRoom, IsFileOf, IsNoRecord, head_of, place_behind, record_of, records}
use Rattle.message_file.proofs.Putting.{place_with, records_with, room_with}
use Rattle.kept_files.specs.Found.{BeginsRecord, IsNext, IsRoomy, IsShut}
use Rattle.kept_files.specs.Growth.{BeginsWith, GoesOn, IsNoFileAt, Keeps, KeepsMore}
use Rattle.kept_files.proofs.Growing.{has_bytes, never_refused, one_list}

-- behind a head alone stand no records
pub begins_empty : (owner : ℕ) (file : List ℕ) → file ≡ head_of owner ++ drop 8 file → BeginsWith owner file []
begins_empty owner file is = is

-- no records have room
pub no_records : HasRoom []
no_records = record { each = tt; all = omega arith }

-- one record further
pub begins_further : (owner place : ℕ) (file body : List ℕ) (bodies : Bodies) → place ≡ place_behind bodies
    → BeginsWith owner file bodies → BeginsRecord place body (drop place file) → BeginsWith owner file (with_body body bodies)
begins_further owner place file body bodies at begins here =
    begins ∙ ap (λ (n : ℕ). front ++ drop n file) (sym at) ∙ ap (λ (l : List ℕ). front ++ l) here.stands
    ∙ sym (append_assoc front (record_of body) (drop (5 + length body) (drop place file)))
    ∙ ap (λ (l : List ℕ). l ++ drop (5 + length body) (drop place file))
    (append_assoc (head_of owner) (records bodies) (record_of body)
    ∙ ap (λ (l : List ℕ). head_of owner ++ l) (sym (records_with bodies body)))
    ∙ ap (λ (l : List ℕ). head_of owner ++ records (with_body body bodies) ++ l)
    (drop-drop (5 + length body) place file ∙ ap (λ (n : ℕ). drop n file) place_next)
  where
    front : List ℕ
    front = head_of owner ++ records bodies

    place_next : place + (5 + length body) ≡ place_behind (with_body body bodies)
    place_next = omega (arith, at, place_with bodies body)

-- behind the last record stands a gate that is not open
pub shut_keeps : (owner place : ℕ) (file : List ℕ) (bodies : Bodies) → place ≡ place_behind bodies → HasRoom bodies
    → BeginsWith owner file bodies → IsShut (drop place file) → Keeps owner file bodies
shut_keeps owner place file bodies at room begins shut =
    inl
    (record {
      gate = shut.0;
      rest = shut.1;
      closed = shut.2;
      stands = begins
          ∙ ap (λ (l : List ℕ). head_of owner ++ records bodies ++ l) (ap (λ (n : ℕ). drop n file) (sym at) ∙ shut.3);
      room = room;
    })

-- and where neither stands there, the file is none
pub breaks_off : (owner place : ℕ) (file : List ℕ) (bodies : Bodies) → place ≡ place_behind bodies → HasRoom bodies
    → BeginsWith owner file bodies → IsNoRecord place (drop place file) → IsNoFileAt owner place file
breaks_off owner place file bodies at room begins broken = (
  λ none. has_bytes owner file _ none begins,
  inl
      (inr
      (record {
        bodies = bodies;
        room = room;
        behind = at;
        stands = begins ∙ ap (λ (n : ℕ). head_of owner ++ records bodies ++ drop n file) (sym at);
        broken = broken;
      })),
)
