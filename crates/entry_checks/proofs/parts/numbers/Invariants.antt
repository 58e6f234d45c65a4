use Rattle.std.proofs.Common.{◌≡◌, ◌+◌, drop}
use Rattle.std.specs.Prelude.{sum_by}
use Rattle.entry_checks.proofs.parts.numbers.Given as goal

abbrev pub invariant-loop-item : goal.invariant-loop-item
invariant-loop-item l =
    l.rest + 4 + sum_by (λ x. 4) l.numbers ≡ l.left + sum_by (λ x. 4) (drop l._item-index l._item-items)
