use Rattle.std.proofs.Common.{◌≡◌, drop}
use Rattle.std.specs.List.{list_any}
use Rattle.definition_faults.specs.Ons.{is_unknown_item}
use Rattle.definition_faults.proofs.ons.has_unknown.Given as goal

abbrev pub invariant-loop-item : goal.invariant-loop-item
invariant-loop-item l =
    list_any (is_unknown_item l.names) l.items
    ≡ list_any (is_unknown_item l.names) (drop l.item-index l.items)
