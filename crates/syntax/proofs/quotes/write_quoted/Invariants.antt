use Rattle.std.proofs.Common.{◌≡◌, ◌++◌, drop, flat_map}
use Rattle.syntax.specs.Quotes.{escaped}
use Rattle.syntax.proofs.quotes.write_quoted.Given as goal

abbrev pub invariant-loop-byte : goal.invariant-loop-byte
invariant-loop-byte l =
    l.initial.out.items ++ flat_map escaped l.text ≡ l.out.items ++ flat_map escaped (drop l.byte-index l.text)
