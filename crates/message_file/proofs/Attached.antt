-- What is kept of a file that was attached.
use Rattle.std.proofs.Common.{◌≡◌, inl, inr, ℕ, List, [], take, sym, ◌∙◌, subst, Option, Some, None, IfSome}
use Rattle.outside.specs.Kept.{Bodies}
use Rattle.outside.specs.Files.{Told}
use Rattle.message_file.specs.Files.{kept_of, IsFileOf, IsAtRest}
use Rattle.message_file.specs.State.{kept_in, KeepsOf}
use Rattle.message_file.specs.Attaching.{IsAttached}
use Rattle.message_file.proofs.Reading.{kept_is}
use Rattle.message_file.proofs.Appending.{kept_at_rest}

pub attached_kept : (old new : Option (List ℕ)) (owner count gate : ℕ) (left : List ℕ → Type 0) → Told (IsAttached owner) old new → IfSome new (λ file. IsAtRest owner count gate file left) → KeepsOf owner old (kept_in new count)
attached_kept None new owner count gate left told rest = tt
attached_kept (Some o) None owner count gate left told rest = absurd told
attached_kept (Some o) (Some n) owner count gate left (inl same) rest =
    let is : same.bodies ≡ take count (kept_of n) = sym (kept_is owner n same.bodies same.after) ∙ kept_is owner n rest.bodies rest.is_file ∙ sym (kept_at_rest owner count gate n left rest) in
    inl (subst (λ (l : Bodies). IsFileOf owner o l) is same.before)
attached_kept (Some o) (Some n) owner count gate left (inr empty) rest =
    inr (empty.0, kept_at_rest owner count gate n left rest ∙ sym (kept_is owner n rest.bodies rest.is_file) ∙ kept_is owner n [] empty.1)
