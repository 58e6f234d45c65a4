use Rattle.std.proofs.Common.{◌≡◌, drop}
use Rattle.model.specs.Words as words
use Rattle.event_audit.proofs.carried_streams.has.Given as goal

abbrev pub invariant-loop-number : goal.invariant-loop-number
invariant-loop-number l = words.has l.numbers l.fn.s ≡ words.has (drop l.number-index l.numbers) l.fn.s
