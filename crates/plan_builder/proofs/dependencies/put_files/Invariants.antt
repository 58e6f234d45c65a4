use Rattle.std.proofs.Common.{◌≡◌, ◌++◌, drop, flat_map}
use Rattle.plan_builder.specs.Dependencies.{files_in}
use Rattle.plan_builder.proofs.dependencies.put_files.Given as goal

abbrev pub invariant-loop-clause : goal.invariant-loop-clause
invariant-loop-clause l =
    l.initial.deps ++ flat_map files_in l.clauses
    ≡ l.deps ++ flat_map files_in (drop l.clause-index l.clauses)
