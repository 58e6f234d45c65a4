use Rattle.std.proofs.Common.{◌≡◌, ◌++◌, drop, flat_map}
use Rattle.plan_builder.specs.Dependencies.{at_in}
use Rattle.plan_builder.proofs.dependencies.put_ats.Given as goal

abbrev pub invariant-loop-clause : goal.invariant-loop-clause
invariant-loop-clause l =
    l.initial.deps ++ flat_map (at_in l.plan) l.clauses
    ≡ l.deps ++ flat_map (at_in l.plan) (drop l.clause-index l.clauses)
