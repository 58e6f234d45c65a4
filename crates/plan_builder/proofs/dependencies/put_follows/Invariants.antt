use Rattle.std.proofs.Common.{◌≡◌, ◌++◌, drop, flat_map}
use Rattle.plan_builder.specs.Dependencies.{follows_in}
use Rattle.plan_builder.proofs.dependencies.put_follows.Given as goal

abbrev pub invariant-loop-clause : goal.invariant-loop-clause
invariant-loop-clause l =
    l.initial.deps ++ flat_map (follows_in l.w l.n l.inside) l.clauses
    ≡ l.deps ++ flat_map (follows_in l.w l.n l.inside) (drop l.clause-index l.clauses)
