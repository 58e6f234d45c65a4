use Rattle.std.proofs.Common.{take}
use Rattle.definition_faults.specs.Conditions.{IsLeastBadLineOf}
use Rattle.definition_faults.proofs.conditions.bad_entry.Given as goal

abbrev pub invariant-loop-entry : goal.invariant-loop-entry
invariant-loop-entry l =
    IsLeastBadLineOf l.fn.before (take l.entry-index l.entries) l.least
