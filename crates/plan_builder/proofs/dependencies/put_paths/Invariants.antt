use Rattle.std.proofs.Common.{◌≡◌, ◌++◌, drop, map}
use Rattle.plan_builder.specs.Dependencies.{file_of}
use Rattle.plan_builder.proofs.dependencies.put_paths.Given as goal

abbrev pub invariant-loop-path : goal.invariant-loop-path
invariant-loop-path l =
    l.initial.deps ++ map file_of l.paths
    ≡ l.deps ++ map file_of (drop l.path-index l.paths)
