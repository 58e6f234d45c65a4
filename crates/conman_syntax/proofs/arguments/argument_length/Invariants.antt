use Rattle.std.proofs.Common.{◌≡◌, ◌+◌, drop}
use Rattle.conman_syntax.specs.Arguments.{argument_length}
use Rattle.conman_syntax.specs.declared.arguments.Quoting.TheVariants.{Outside}
use Rattle.conman_syntax.proofs.arguments.argument_length.Given as goal

abbrev pub invariant-loop-i : goal.invariant-loop-i
invariant-loop-i l = argument_length Outside l.text ≡ l.i + argument_length l.quoting (drop l.i l.text)
