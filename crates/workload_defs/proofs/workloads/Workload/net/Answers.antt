use Rattle.std.proofs.Common.{◌∙◌, ap}
use Rattle.network_tree.specs.Faults.{net_fault}
use Rattle.workload_defs.proofs.Fits.{accepted}
use Rattle.workload_defs.proofs.workloads.Workload.net.Goals as goal

pub returns-clause-accepted : goal.returns-clause-accepted
returns-clause-accepted c =
    ap net_fault c.self.invariant.hosts_.net_ ∙ accepted c.self.inside.defs c.self.invariant.faultless
