use Rattle.std.proofs.Common.{◌≡◌, ◌+◌, drop}
use Rattle.std.specs.Prelude.{sum_by}
use Rattle.model.specs.Sizes.{op_size}
use Rattle.entry_checks.proofs.parts.cond.Given as goal

abbrev pub invariant-loop-item : goal.invariant-loop-item
invariant-loop-item l =
    l.rest + 1 + sum_by op_size l.cond ≡ l.left + sum_by op_size (drop l.item-index l.item-items)
