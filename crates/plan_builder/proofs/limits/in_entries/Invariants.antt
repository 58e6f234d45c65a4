use Rattle.std.proofs.Common.{◌≡◌, drop}
use Rattle.model.specs.Words.{least}
use Rattle.plan_builder.specs.Limits.{lines_of_entries, lower}
use Rattle.plan_builder.proofs.limits.in_entries.Given as goal

abbrev pub invariant-loop-entry : goal.invariant-loop-entry
invariant-loop-entry l =
    lower l.fn.before (least (lines_of_entries l.plan l.entries))
    ≡ lower l.first (least (lines_of_entries l.plan (drop l.entry-index l.entries)))
