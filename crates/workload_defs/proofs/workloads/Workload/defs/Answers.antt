use Rattle.std.proofs.Common.{subst}
use Rattle.definition_faults.specs.Faults.{IsFaultless}
use Rattle.workload_defs.proofs.workloads.Workload.defs.Goals as goal

pub returns-clause-faultless : goal.returns-clause-faultless
returns-clause-faultless c = subst IsFaultless c.self.view_is c.self.invariant.faultless
