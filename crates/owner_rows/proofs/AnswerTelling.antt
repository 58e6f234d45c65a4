-- What is told of answers, one body further.
use Rattle.std.proofs.Common.{[], ℕ, ◌+◌, ◌++◌, ◌<◌, ◌∙◌, ◌∷◌, ◌≡◌, ◌≢◌, ◌^◌, Bool, List, Some, ap, arith, count_by}
use Rattle.std.proofs.Common.{false, length, refl, sym}
use Rattle.std.proofs.lemmas.List.Sums.{count_by-le-length}
use Rattle.std.specs.Prelude.{if◌then◌else◌}
use Rattle.model.specs.Types.{Added, Body, Clock, Declined, Ended, Failed, Fulfilled, Launched, Lost, NewPlan, Obeyed}
use Rattle.model.specs.Types.{Late, Order, Released, Started, StreamEnded, UntilPassed}
use Rattle.model.specs.Facts.{answered, answers_to}
use Rattle.owner_rows.specs.Subjects.{issuer_in}
use Rattle.owner_rows.proofs.Further.{apart, count_with, counted_with}

pub answer_told : (events : List Body) (b : Body) (a old new : ℕ) (p : Bool) → length events + 1 < 2 ^ 32
    → old ≡ answered a events → p ≡ answers_to a b
    → (old + 1 < 2 ^ 32 → new ≡ old + (if p then 1 else 0)) → new ≡ answered a (events ++ b ∷ [])
unfolding answered
answer_told events b a old new p room h e more =
    counted_with old new (count_by (answers_to a) events) (length events) p (answers_to a b) h
    (count_by-le-length (answers_to a) events) room e more ∙ sym (count_with (answers_to a) events b)

silent : (a : ℕ) (b : Body) → issuer_in b ≢ Some a → answers_to a b ≡ false
silent a (Obeyed x k c) h = apart a x h
silent a (Added x k doc) h = apart a x h
silent a (Declined x k why) h = apart a x h
silent a (NewPlan run cut carried docs) h = refl
silent a (Clock t) h = refl
silent a (UntilPassed p i mark) h = refl
silent a (Launched j n seen) h = refl
silent a (Started j n) h = refl
silent a (Failed j n) h = refl
silent a (Ended j n rc good) h = refl
silent a (Lost j n) h = refl
silent a (Fulfilled p i) h = refl
silent a (Order c) h = refl
silent a (Late p i) h = refl
silent a (Released t seen) h = refl
silent a (StreamEnded t seen) h = refl

pub answer_quiet : (events : List Body) (b : Body) (a count : ℕ) → issuer_in b ≢ Some a → count ≡ answered a events
    → count ≡ answered a (events ++ b ∷ [])
unfolding answered
answer_quiet events b a count h e =
    e ∙ sym (count_with (answers_to a) events b
    ∙ ap (λ (t : Bool). count_by (answers_to a) events + (if t then 1 else 0)) (silent a b h)
    ∙ plus (count_by (answers_to a) events))
  where
    plus : (n : ℕ) → n + 0 ≡ n
    plus n = omega arith
