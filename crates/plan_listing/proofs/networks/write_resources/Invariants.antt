use Rattle.std.proofs.Common.{◌≡◌, ◌++◌, drop, flat_map}
use Rattle.plan_listing.specs.Networks.{resource_line}
use Rattle.plan_listing.proofs.networks.write_resources.Given as goal

abbrev pub invariant-loop-resource : goal.invariant-loop-resource
invariant-loop-resource l =
    l.initial.out.items ++ flat_map (resource_line l.net) l.resources
    ≡ l.out.items ++ flat_map (resource_line l.net) (drop l.resource-index l.resources)
