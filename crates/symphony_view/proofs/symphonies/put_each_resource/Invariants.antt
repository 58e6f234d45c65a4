use Rattle.std.proofs.Common.{◌≡◌, ◌+◌, ◌++◌, drop, flat_map}
use Rattle.std.specs.List.{enumerate_from}
use Rattle.model.specs.History.{view_of}
use Rattle.symphony_view.specs.Symphonies.{resource_bytes}
use Rattle.symphony_view.proofs.symphonies.put_each_resource.Given as goal

abbrev pub invariant-loop-resource : goal.invariant-loop-resource
invariant-loop-resource l =
    (l.number ≡ l.resource-index)
    × (l.initial.out ++ flat_map (resource_bytes (view_of l.o)) (enumerate_from 1 l.resources)
    ≡ l.out ++ flat_map (resource_bytes (view_of l.o)) (enumerate_from (l.number + 1) (drop l.resource-index l.resources)))
