use Rattle.std.proofs.Common.{◌≡◌, List, ℕ, filter, take}
use Rattle.model.specs.Words.{has}
use Rattle.owner_fold.specs.Numbers.{ArePlaces}
use Rattle.owner_fold.proofs.plans.Plan.members_among.Given as goal

abbrev pub invariant-loop-number : goal.invariant-loop-number
invariant-loop-number l =
    (numbers : List ℕ) → ArePlaces numbers l.streams
    → l.members ≡ filter (has numbers) (take l.number-index l.number-items)
