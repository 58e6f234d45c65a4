use Rattle.std.proofs.Common.{arith}
use Rattle.definition_faults.specs.Masters.{stray_fault}
use Rattle.definition_faults.proofs.Loops.{found_more}
use Rattle.definition_faults.proofs.masters.in_managers.Goals as goal

pub loop-domain-preserved : goal.loop-domain-preserved
loop-domain-preserved c =
    found_more (stray_fault c.args.names.now) c.as_slice-domains.result.now c.loop-domain.domain-index c.domain-item.result _
    c.loop-domain.first c.earlier-first.result c.stray_fault.result (omega arith) c.domain-item.is c.stray_fault.ensures
    c.earlier-first.ensures c.loop-domain.invariant
