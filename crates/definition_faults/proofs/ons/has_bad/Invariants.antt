use Rattle.std.proofs.Common.{◌≡◌, drop}
use Rattle.std.specs.List.{list_any}
use Rattle.definition_faults.specs.Ons.{is_bad_item}
use Rattle.definition_faults.proofs.ons.has_bad.Given as goal

abbrev pub invariant-loop-item : goal.invariant-loop-item
invariant-loop-item l =
    list_any (is_bad_item l.has_first) l.items
    ≡ list_any (is_bad_item l.has_first) (drop l.item-index l.items)
