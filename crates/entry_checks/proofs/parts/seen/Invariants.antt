use Rattle.std.proofs.Common.{◌≡◌, ◌+◌, drop}
use Rattle.std.specs.Prelude.{sum_by}
use Rattle.entry_checks.proofs.parts.seen.Given as goal

abbrev pub invariant-loop-item : goal.invariant-loop-item
invariant-loop-item l =
    l.rest + 4 + sum_by (λ x. 6) l.seen ≡ l.left + sum_by (λ x. 6) (drop l._item-index l._item-items)
