use Rattle.std.proofs.Common.{◌≡◌, ◌+◌, drop}
use Rattle.std.specs.Prelude.{sum_by}
use Rattle.model.specs.Sizes.{dep_size}
use Rattle.entry_checks.proofs.parts.deps.Given as goal

abbrev pub invariant-loop-item : goal.invariant-loop-item
invariant-loop-item l =
    l.rest + 4 + sum_by dep_size l.deps ≡ l.left + sum_by dep_size (drop l.item-index l.item-items)
