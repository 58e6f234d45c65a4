use Rattle.std.proofs.Common.{◌≡◌, ◌++◌, drop, flat_map}
use Rattle.std.specs.Option.{option_copied}
use Rattle.plan_builder.specs.Dependencies.{needs_in}
use Rattle.plan_builder.proofs.dependencies.put_needs.Given as goal

abbrev pub invariant-loop-clause : goal.invariant-loop-clause
invariant-loop-clause l =
    l.initial.deps ++ flat_map (needs_in l.names (option_copied l.ws)) l.clauses
    ≡ l.deps ++ flat_map (needs_in l.names (option_copied l.ws)) (drop l.clause-index l.clauses)
