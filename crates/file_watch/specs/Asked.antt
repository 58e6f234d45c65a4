-- What a prober is asked.
use Rattle.std.specs.Prelude.{ℕ, Bool, List, Result}
use Rattle.outside.specs.declared.Failed.{Failed}

-- a path, and whether a file was there, or that the call failed
pub record Probe : Type 0 where
  pub path : List ℕ
  pub answer : Result Bool Failed
