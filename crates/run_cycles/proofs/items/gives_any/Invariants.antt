use Rattle.std.proofs.Common.{◌≡◌, drop}
use Rattle.std.specs.List.{list_any}
use Rattle.run_cycles.specs.Clips.{gives_within}
use Rattle.run_cycles.proofs.items.gives_any.Given as goal

abbrev pub invariant-loop-item : goal.invariant-loop-item
invariant-loop-item l =
    list_any (gives_within l.w l.free l.first l.from l.end) l.items
    ≡ list_any (gives_within l.w l.free l.first l.from l.end) (drop l.item-index l.items)
