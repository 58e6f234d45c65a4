use Rattle.std.proofs.Common.{drop}
use Rattle.carry_forward.specs.Known.{AreJobsOf, named_jobs}
use Rattle.carry_forward.proofs.names.jobs_of_document.Given as goal

abbrev pub invariant-loop-i : goal.invariant-loop-i
invariant-loop-i l = AreJobsOf l.names.entries (named_jobs (drop l.i l.jobs))
