use Rattle.std.proofs.Common.{◌≡◌, drop}
use Rattle.plan_builder.specs.Clauses.{first_number, limit_in}
use Rattle.plan_builder.proofs.clauses.limit_of.Given as goal

abbrev pub invariant-loop-clause : goal.invariant-loop-clause
invariant-loop-clause l =
    first_number limit_in l.clauses ≡ first_number limit_in (drop l.clause-index l.clauses)
