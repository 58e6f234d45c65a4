use Rattle.std.proofs.Common.{◌≡◌, ◌++◌, drop}
use Rattle.definition_faults.specs.Graphs.{followed}
use Rattle.definition_faults.proofs.graphs.followed.Given as goal

abbrev pub invariant-loop-clause : goal.invariant-loop-clause
invariant-loop-clause l =
    followed l.names l.n l.inside l.clauses ≡ l.places ++ followed l.names l.n l.inside (drop l.clause-index l.clauses)
