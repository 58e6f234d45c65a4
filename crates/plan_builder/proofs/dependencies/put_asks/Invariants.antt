use Rattle.std.proofs.Common.{◌≡◌, ◌++◌, drop, map}
use Rattle.plan_builder.specs.Dependencies.{prompt_of}
use Rattle.plan_builder.proofs.dependencies.put_asks.Given as goal

abbrev pub invariant-loop-prompt : goal.invariant-loop-prompt
invariant-loop-prompt l =
    l.initial.deps ++ map (prompt_of l.names) l.prompts
    ≡ l.deps ++ map (prompt_of l.names) (drop l.prompt-index l.prompts)
