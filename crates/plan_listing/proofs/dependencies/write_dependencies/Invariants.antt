use Rattle.std.proofs.Common.{◌≡◌, ◌++◌, drop, flat_map}
use Rattle.plan_listing.specs.Dependencies.{draft_dep_line}
use Rattle.plan_listing.proofs.dependencies.write_dependencies.Given as goal

abbrev pub invariant-loop-dep : goal.invariant-loop-dep
invariant-loop-dep l =
    l.initial.out.items ++ flat_map (draft_dep_line l.net) l.deps
    ≡ l.out.items ++ flat_map (draft_dep_line l.net) (drop l.dep-index l.deps)
