use Rattle.std.proofs.Common.{◌≡◌, drop, filter_map}
use Rattle.definition_faults.specs.Orders.{earliest, earlier_of}
use Rattle.definition_faults.specs.Masters.{stray_fault}
use Rattle.definition_faults.proofs.masters.in_managers.Given as goal

abbrev pub invariant-loop-domain : goal.invariant-loop-domain
invariant-loop-domain l =
    earliest (filter_map (stray_fault l.names) l.domains)
    ≡ earlier_of l.first (earliest (filter_map (stray_fault l.names) (drop l.domain-index l.domains)))
