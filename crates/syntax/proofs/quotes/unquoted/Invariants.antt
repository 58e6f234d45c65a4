use Rattle.std.proofs.Common.{◌≡◌, ◌++◌, length, option_map}
use Rattle.std.specs.Str.{IsUtf8}
use Rattle.syntax.specs.Quotes.{unquoted}
use Rattle.syntax.proofs.quotes.unquoted.Given as goal

abbrev pub invariant-loop-rest : goal.invariant-loop-rest
invariant-loop-rest l = record {
  value : unquoted l.text ≡ option_map (λ more. l.value.items ++ more) (unquoted l.rest);
  text : IsUtf8 (l.value.items ++ l.rest);
}

abbrev pub decreases-loop-rest : goal.decreases-loop-rest
decreases-loop-rest l = length l.rest
