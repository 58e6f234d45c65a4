use Rattle.std.proofs.Common.{◌≡◌, ◌+◌, ◌++◌, drop, flat_map}
use Rattle.std.specs.List.{enumerate_from}
use Rattle.model.specs.History.{view_of}
use Rattle.symphony_view.specs.Listings.{resource_line}
use Rattle.symphony_view.proofs.listings.write_resources.Given as goal

abbrev pub invariant-loop-resource : goal.invariant-loop-resource
invariant-loop-resource l =
    (l.number ≡ l.resource-index)
    × (l.initial.out.items ++ flat_map (resource_line l.net (view_of l.o)) (enumerate_from 1 l.net.resources)
    ≡ l.out.items
    ++ flat_map (resource_line l.net (view_of l.o))
    (enumerate_from (l.number + 1) (drop l.resource-index l.net.resources)))
