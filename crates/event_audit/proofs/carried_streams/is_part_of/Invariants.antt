use Rattle.event_audit.proofs.Parts.{IsFoundSoFar}
use Rattle.event_audit.proofs.carried_streams.is_part_of.Given as goal

abbrev pub invariant-loop-number : goal.invariant-loop-number
invariant-loop-number l = IsFoundSoFar l.part l.whole l.found l.number-index
