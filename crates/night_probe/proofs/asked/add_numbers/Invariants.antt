use Rattle.std.specs.Prelude.{IsUtf8}
use Rattle.night_probe.proofs.asked.add_numbers.Given as goal

abbrev pub invariant-loop-word : goal.invariant-loop-word
invariant-loop-word l = IsUtf8 l.left
