use Rattle.std.proofs.Common.{◌≡◌, ℕ, eqb, take}
use Rattle.std.specs.List.{list_any}
use Rattle.model.specs.Words.{has}
use Rattle.carry_forward.proofs.rooms.number_set.Given as goal

abbrev pub invariant-loop-s : goal.invariant-loop-s
invariant-loop-s l = (n : ℕ) → list_any (λ (k : ℕ). eqb n k) l.numbers.keys ≡ has (take l.s-index l.streams) n
