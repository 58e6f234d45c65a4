use Rattle.std.proofs.Common.{◌≡◌, drop}
use Rattle.model.specs.Workstations.{ws_in_seen}
use Rattle.entry_checks.specs.Inside.{are_inside}
use Rattle.entry_checks.proofs.bodies.are_counts_inside.Given as goal

abbrev pub invariant-loop-item : goal.invariant-loop-item
invariant-loop-item l =
    are_inside l.count (ws_in_seen l.seen) ≡ are_inside l.count (ws_in_seen (drop l.item-index l.item-items))
