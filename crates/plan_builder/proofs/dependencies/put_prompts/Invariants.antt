use Rattle.std.proofs.Common.{◌≡◌, ◌++◌, drop, flat_map}
use Rattle.plan_builder.specs.Dependencies.{prompts_in}
use Rattle.plan_builder.proofs.dependencies.put_prompts.Given as goal

abbrev pub invariant-loop-clause : goal.invariant-loop-clause
invariant-loop-clause l =
    l.initial.deps ++ flat_map (prompts_in l.names) l.clauses
    ≡ l.deps ++ flat_map (prompts_in l.names) (drop l.clause-index l.clauses)
