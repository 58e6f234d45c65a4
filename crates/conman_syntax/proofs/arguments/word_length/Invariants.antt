use Rattle.std.proofs.Common.{◌≡◌, ◌<◌, ℕ, false, get_or}
use Rattle.conman_syntax.specs.Arguments.{ends_word}
use Rattle.conman_syntax.proofs.arguments.word_length.Given as goal

abbrev pub invariant-loop-i : goal.invariant-loop-i
invariant-loop-i l = (k : ℕ) → k < l.i → ends_word (get_or l.line k 0) ≡ false
