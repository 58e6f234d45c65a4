-- How files stay their owner's.
use Rattle.std.proofs.Common.{◌≡◌, ◌⊎◌, ◌↔◌, inl, inr, ⊎_elim, ℕ, ◌+◌, ◌<◌, ◌≤◌, List, length, sym, subst, Some, None, IfSome}
use Rattle.std.specs.declared.option.Option.{Option}
use Rattle.outside.specs.Records.{longest_body, longest_file, piece_of}
use Rattle.outside.specs.Kept.{Bodies, with_body}
use Rattle.outside.specs.Files.{Told}
use Rattle.message_file.specs.Attaching.{OnlyReads}
use Rattle.message_file.specs.Files.{IsAtRest, IsFileOf}
use Rattle.gated_puts.specs.Steps.{IsStaged, StagedOf, Opened}
use Rattle.message_file.proofs.Putting.{staged_keeps}
use Rattle.message_file.specs.State.{IsOwn, OwnFiles, KeptLeft}

-- a file at rest is all that a stop leaves
pub rest_own : (owner count gate : ℕ) (told : Option (List ℕ)) (left since : List ℕ → Type 0) → IfSome told (λ file. IsAtRest owner count gate file left)
    → ((file : List ℕ) → since file → left file) → OwnFiles owner told since
rest_own owner count gate None left since rest now = tt
rest_own owner count gate (Some file) left since rest now = (
  (rest.bodies, rest.is_file),
  λ other was. (rest.bodies, subst (λ (l : List ℕ). IsFileOf owner l rest.bodies) (sym (rest.durable other (now other was))) rest.is_file),
)

-- a piece that was opened is one that was staged
pub opened_staged : (gate : ℕ) (piece : List ℕ) (old new : Option (List ℕ)) → Told (Opened gate piece) old new → Told (IsStaged gate piece) old new
opened_staged gate piece None None told = tt
opened_staged gate piece None (Some n) told = told
opened_staged gate piece (Some o) None told = told
opened_staged gate piece (Some o) (Some n) told = inr (1, told)

module _ (owner count gate : ℕ) (body : List ℕ) (short : length body ≤ longest_body) (fits : gate + 5 + length body < longest_file) where
  one : (old new : List ℕ) (left : List ℕ → Type 0) (rest : IsAtRest owner count gate old left) → IsStaged gate (piece_of body) old new → IsOwn owner new
  one old new left rest staged =
      elim (staged_keeps owner count gate old left rest body short fits new staged) [
        | inl same ↦ (rest.bodies, same)
        | inr more ↦ (with_body body rest.bodies, more)
      ]

  -- putting one record leaves files of the owner
  pub staged_own : (old new : Option (List ℕ)) (left before since : List ℕ → Type 0) → IfSome old (λ file. IsAtRest owner count gate file left)
      → Told (IsStaged gate (piece_of body)) old new → ((file : List ℕ) → since file → before file ⊎ StagedOf gate (piece_of body) old file)
      → OwnFiles owner old before → OwnFiles owner new since
  staged_own None None left before since rest told moments own = tt
  staged_own None (Some n) left before since rest told moments own = absurd told
  staged_own (Some o) None left before since rest told moments own = absurd told
  staged_own (Some o) (Some n) left before since rest told moments own = (
    one o n left rest told,
    λ file was. ⊎_elim (λ b. own.1 file b) (λ s. one o file left rest s) (moments file was),
  )

-- and so does reading
pub same_own : (owner : ℕ) (old new : Option (List ℕ)) (before since : List ℕ → Type 0) → new ≡ old → ((file : List ℕ) → since file → before file) → OwnFiles owner old before → OwnFiles owner new since
same_own owner None None before since same moments own = tt
same_own owner None (Some n) before since same moments own = absurd (cc same)
same_own owner (Some o) None before since same moments own = absurd (cc same)
same_own owner (Some o) (Some n) before since same moments own = let is : n ≡ o = cc same in (subst (IsOwn owner) (sym is) own.0, λ file was. own.1 file (moments file was))

-- Reading changes nothing of what a stop leaves.
module _ {D : Type 0} (seen : D → Option (List ℕ)) (may_leave : D → List ℕ → Type 0) (moment : D → ℕ) (left_since : D → ℕ → List ℕ → Type 0)
    (counts_now : (disk : D) (t : ℕ) (file : List ℕ) → t ≤ moment disk → may_leave disk file → left_since disk t file)
    (old new : D) (reads : OnlyReads seen may_leave moment left_since old new) where
  pub kept_now : (left : Bodies) → (KeptLeft (may_leave new) left ↔ KeptLeft (may_leave old) left)
  kept_now left = (λ k. (k.0, reads.left k.0 k.1, k.2), λ k. (k.0, reads.still k.0 k.1, k.2))

  back : (t : ℕ) (file : List ℕ) → t ≤ moment old → left_since new t file → left_since old t file
  back t file le was = ⊎_elim (λ b. b) (λ now. counts_now old t file le now) (reads.since t file le was)

  pub kept_since : (t : ℕ) (left : Bodies) → t ≤ moment old → (KeptLeft (left_since new t) left ↔ KeptLeft (left_since old t) left)
  kept_since t left le = (λ k. (k.0, back t k.0 le k.1, k.2), λ k. (k.0, reads.keeps t k.0 le k.1, k.2))

  pub reads_own : (owner t : ℕ) → t ≤ moment old → OwnFiles owner (seen old) (left_since old t) → OwnFiles owner (seen new) (left_since new t)
  reads_own owner t le own = same_own owner (seen old) (seen new) (left_since old t) (left_since new t) reads.same (λ file was. back t file le was) own
