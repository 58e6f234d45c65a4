-- What a node does to its file, and which lists a file keeps.
use Rattle.std.proofs.Common.{◌≡◌, ◌≢◌, ◌∙◌, ◌∷◌, ◌++◌, [], ℕ, List, ap, append_assoc, inl, inr, sym}
use Rattle.std.proofs.lemmas.List.{append-nil}
use Rattle.outside.specs.Kept.{Bodies}
use Rattle.message_file.specs.declared.attaches.AttachFault.TheVariants.{Disk, NotAMessageFile, OtherOwner}
use Rattle.message_file.proofs.Again.{not_refused}
use Rattle.message_file.proofs.Reading.{kept_is}
use Rattle.kept_files.specs.Growth.{GoesOn, IsNoFileAt, Keeps, KeepsMore}

pub goes_on_still : (kept : Bodies) → GoesOn kept kept
goes_on_still kept = ([], sym (append-nil kept))

pub goes_on_again : (a b c : Bodies) → GoesOn a b → GoesOn b c → GoesOn a c
goes_on_again a b c first second = (
  first.0 ++ second.0,
  second.1 ∙ ap (λ (l : Bodies). l ++ second.0) first.1 ∙ append_assoc a first.0 second.0,
)

pub still_kept : (owner : ℕ) (file : List ℕ) → KeepsMore owner file file
still_kept owner file =
    record {
      records_stay = λ bodies there. there;
      keeps = λ kept here. (kept, goes_on_still kept, here);
    }

pub more_again : (owner : ℕ) (a b c : List ℕ) → KeepsMore owner a b → KeepsMore owner b c → KeepsMore owner a c
more_again owner a b c first second =
    record {
      records_stay = λ bodies there. second.records_stay bodies (first.records_stay bodies there);
      keeps = λ kept here.
          let then_ = first.keeps kept here in
          let last = second.keeps then_.0 then_.2 in
          (last.0, goes_on_again kept then_.0 last.0 then_.1 last.1, last.2);
    }

-- a file that begins with a head has bytes
pub has_bytes : (owner : ℕ) (file rest : List ℕ) → file ≡ [] → file ≡ 84 ∷ rest → ⊥
has_bytes owner file rest none some = cc

pub one_list : (owner : ℕ) (file : List ℕ) (a b : Bodies) → Keeps owner file a → Keeps owner file b → a ≡ b
one_list owner file a b (inl x) (inl y) = sym (kept_is owner file a x) ∙ kept_is owner file b y
one_list owner file a b (inl x) (inr y) = absurd (has_bytes owner file _ y.0 x.stands)
one_list owner file a b (inr x) (inl y) = absurd (has_bytes owner file _ x.0 y.stands)
one_list owner file a b (inr x) (inr y) = x.1 ∙ sym y.1

no_disk : (place : ℕ) → NotAMessageFile place ≡ Disk → ⊥
no_disk place e = cc

no_disk_either : (place : ℕ) → OtherOwner place ≡ Disk → ⊥
no_disk_either place e = cc

pub never_refused : (owner place : ℕ) (file : List ℕ) (kept : Bodies) → Keeps owner file kept
    → IsNoFileAt owner place file → ⊥
never_refused owner place file kept (inr none) refused = refused.0 none.0
never_refused owner place file kept (inl own) refused = elim refused.1 [
  | inl is ↦ no_disk place (not_refused owner file kept (NotAMessageFile place) own is)
  | inr is ↦ no_disk_either place (not_refused owner file kept (OtherOwner place) own is)
]
