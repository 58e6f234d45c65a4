use Rattle.std.proofs.Common.{◌≡◌, ◌+◌, drop}
use Rattle.std.specs.Prelude.{sum_by}
use Rattle.model.specs.Sizes.{draft_dep_size}
use Rattle.entry_checks.proofs.parts.draft_deps.Given as goal

abbrev pub invariant-loop-item : goal.invariant-loop-item
invariant-loop-item l =
    l.rest + 4 + sum_by draft_dep_size l.deps ≡ l.left + sum_by draft_dep_size (drop l.item-index l.item-items)
