-- What is told of a resource, one body further.
use Rattle.std.proofs.Common.{[], ℕ, ◌++◌, ◌∙◌, ◌∷◌, ◌≡◌, ◌≢◌, Bool, List, None, Option, Some, ap}
use Rattle.std.proofs.Common.{refl, sym}
use Rattle.std.specs.Bool.{then_some}
use Rattle.std.specs.Option.{option_or}
use Rattle.std.specs.Prelude.{unwrap_or}
use Rattle.model.specs.Types.{AddDep, Added, AltPri, Body, Cancel, Clock, Cmd, Confirm, Declined, DelDep, Ended, Failed}
use Rattle.model.specs.Types.{Fence, Fulfilled, Kill, Late, Launched, Limit, Lost, NewPlan, Obeyed, Order, Release}
use Rattle.model.specs.Types.{Released, ReplyGlobal, ReplyOwn, Rerun, Started, Stop, StreamEnded, StreamLimit, Submit}
use Rattle.model.specs.Types.{SwitchMgr, Total, UntilPassed}
use Rattle.model.specs.Facts.{commands, total, total_in}
use Rattle.owner_rows.specs.Subjects.{resource_in}
use Rattle.owner_rows.specs.Totals.{IsTotalRow, total_said}
use Rattle.owner_rows.proofs.Further.{apart, last_set_with}

pub total_told : (events : List Body) (b : Body) (r : ℕ) (before set : Option ℕ) → IsTotalRow events r before
    → set ≡ option_or (total_said r b) before → IsTotalRow (events ++ b ∷ []) r set
unfolding total
total_told events b r before set h e defined =
    ap (λ (o : Option ℕ). unwrap_or o defined) e ∙ go (total_said r b)
    ∙ ap (unwrap_or (total_said r b)) (h defined) ∙ sym (last_set_with (total_in r) defined events b)
  where
    go : (o : Option ℕ) → unwrap_or (option_or o before) defined ≡ unwrap_or o (unwrap_or before defined)
    go None = refl
    go (Some n) = refl

silent : (r : ℕ) (b : Body) → resource_in b ≢ Some r → None ≡ total_said r b
silent r (Obeyed a k (Total q n)) h = ap (λ (t : Bool). then_some t n) (sym (apart r q h))
silent r (Obeyed a k (AddDep o d)) h = refl
silent r (Obeyed a k (DelDep o i)) h = refl
silent r (Obeyed a k (Release o)) h = refl
silent r (Obeyed a k (AltPri o p)) h = refl
silent r (Obeyed a k (Cancel o)) h = refl
silent r (Obeyed a k (Confirm j)) h = refl
silent r (Obeyed a k (Kill j)) h = refl
silent r (Obeyed a k (Rerun j)) h = refl
silent r (Obeyed a k (Fence p)) h = refl
silent r (Obeyed a k (Limit n)) h = refl
silent r (Obeyed a k (StreamLimit s n)) h = refl
silent r (Obeyed a k (ReplyGlobal p yes_)) h = refl
silent r (Obeyed a k (ReplyOwn o i yes_)) h = refl
silent r (Obeyed a k Cmd.Start) h = refl
silent r (Obeyed a k Stop) h = refl
silent r (Obeyed a k (Submit d)) h = refl
silent r (Obeyed a k (SwitchMgr w)) h = refl
silent r (NewPlan run cut carried docs) h = refl
silent r (Added a k doc) h = refl
silent r (Clock t) h = refl
silent r (Released s seen) h = refl
silent r (StreamEnded s seen) h = refl
silent r (UntilPassed p i mark) h = refl
silent r (Launched j n seen) h = refl
silent r (Started j n) h = refl
silent r (Failed j n) h = refl
silent r (Ended j n rc good) h = refl
silent r (Lost j n) h = refl
silent r (Fulfilled p i) h = refl
silent r (Declined a k why) h = refl
silent r (Order c) h = refl
silent r (Late p i) h = refl

pub total_quiet : (events : List Body) (b : Body) (r : ℕ) (set : Option ℕ) → resource_in b ≢ Some r
    → IsTotalRow events r set → IsTotalRow (events ++ b ∷ []) r set
total_quiet events b r set h row =
    total_told events b r set set row (ap (λ (o : Option ℕ). option_or o set) (silent r b h))

pub total_of_none : (r : ℕ) → IsTotalRow [] r None
unfolding total commands
total_of_none r defined = refl
