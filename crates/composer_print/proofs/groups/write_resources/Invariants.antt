use Rattle.std.proofs.Common.{◌≡◌, ◌++◌, drop, flat_map, map}
use Rattle.composer_print.specs.Groups.{resource_line}
use Rattle.composer_print.specs.Normal.{bare}
use Rattle.composer_print.proofs.groups.write_resources.Given as goal

abbrev pub invariant-loop-resource : goal.invariant-loop-resource
invariant-loop-resource l =
    l.initial.out.items ++ flat_map (λ x. resource_line x.item) (map bare l.resources)
    ≡ l.out.items ++ flat_map (λ x. resource_line x.item) (map bare (drop l.resource-index l.resources))
