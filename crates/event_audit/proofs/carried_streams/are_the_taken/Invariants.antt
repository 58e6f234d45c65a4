use Rattle.std.proofs.Common.{take}
use Rattle.counted_decisions.specs.Sights.{seen_in}
use Rattle.event_audit.specs.Plans.{AreTheTaken}
use Rattle.event_audit.proofs.carried_streams.are_the_taken.Given as goal

abbrev pub invariant-loop-s : goal.invariant-loop-s
invariant-loop-s l = AreTheTaken l.net.carry (seen_in l.sight) l.carried (take l.s-index l.members)
