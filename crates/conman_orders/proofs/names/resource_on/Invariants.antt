use Rattle.std.proofs.Common.{◌≡◌, ◌+◌, drop}
use Rattle.std.specs.List.{position_from}
use Rattle.conman_orders.specs.Names.{is_resource, resource_on}
use Rattle.conman_orders.proofs.names.resource_on.Given as goal

abbrev pub invariant-loop-i : goal.invariant-loop-i
invariant-loop-i l =
    resource_on l.network l.w l.name ≡ position_from (is_resource l.w l.name) (l.i + 1) (drop l.i l.resources)
