use Rattle.std.proofs.Common.{◌≡◌, ◌==◌, drop, length}
use Rattle.std.specs.List.{list_any}
use Rattle.definition_faults.proofs.ranges.has_empty.Given as goal

abbrev pub invariant-loop-path : goal.invariant-loop-path
invariant-loop-path l =
    list_any (λ path. length path == 0) l.paths
    ≡ list_any (λ path. length path == 0) (drop l.path-index l.paths)
