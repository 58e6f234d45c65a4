use Rattle.std.proofs.Common.{◌≡◌, drop}
use Rattle.model.specs.Words.{least}
use Rattle.plan_builder.specs.Limits.{lines_in, lower}
use Rattle.plan_builder.proofs.limits.in_clauses.Given as goal

abbrev pub invariant-loop-clause : goal.invariant-loop-clause
invariant-loop-clause l =
    lower l.fn.before (least (lines_in l.plan l.clauses))
    ≡ lower l.first (least (lines_in l.plan (drop l.clause-index l.clauses)))
