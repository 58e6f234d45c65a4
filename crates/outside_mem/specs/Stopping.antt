-- What a disk that stops at one of its calls holds, and how it counts them.
use Rattle.std.specs.Prelude.{◌≡◌, ◌-◌, ◌<◌, ℕ, Result}
use Rattle.std.specs.Result.{IsErr}
use Rattle.outside.specs.Causes.{HasCause}

-- the disk below, how many calls are still made, and how many failed
pub record StoppingState (D : Type 0) : Type 0 where
  pub disk : D
  pub left : ℕ
  pub faults : ℕ

-- One call fewer is left. Where none was, the call failed and did not reach the disk below; else it failed only where
-- the disk below did.
pub record IsCounted {D T E : Type 0} (faults : D → ℕ) (old new : StoppingState D) (result : Result T E) : Type 0 where
  pub left : new.left ≡ old.left - 1
  pub stopped : old.left ≡ 0 → IsErr result
  pub untouched : old.left ≡ 0 → new.disk ≡ old.disk
  pub below : 0 < old.left → HasCause (faults old.disk) (faults new.disk) result
