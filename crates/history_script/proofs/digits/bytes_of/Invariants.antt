use Rattle.std.proofs.Common.{◌≡◌, ◌++◌, length, option_map}
use Rattle.history_script.specs.Digits.{bytes_of}
use Rattle.history_script.proofs.digits.bytes_of.Given as goal

abbrev pub invariant-loop-rest : goal.invariant-loop-rest
invariant-loop-rest l = bytes_of l.digits ≡ option_map (λ more. l.bytes.items ++ more) (bytes_of l.rest)

abbrev pub decreases-loop-rest : goal.decreases-loop-rest
decreases-loop-rest l = length l.rest
