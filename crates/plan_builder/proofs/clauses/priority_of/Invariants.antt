use Rattle.std.proofs.Common.{◌≡◌, drop}
use Rattle.plan_builder.specs.Clauses.{first_number, priority_in}
use Rattle.plan_builder.proofs.clauses.priority_of.Given as goal

abbrev pub invariant-loop-clause : goal.invariant-loop-clause
invariant-loop-clause l =
    first_number priority_in l.clauses ≡ first_number priority_in (drop l.clause-index l.clauses)
