use Rattle.std.proofs.Common.{◌+◌, drop}
use Rattle.std.specs.List.{enumerate_from}
use Rattle.carry_forward.specs.Known.{AreJobsOf, numbered_jobs}
use Rattle.carry_forward.proofs.names.jobs_of_draft.Given as goal

abbrev pub invariant-loop-i : goal.invariant-loop-i
invariant-loop-i l = AreJobsOf l.names.entries (numbered_jobs (enumerate_from (l.fn.first + l.i) (drop l.i l.jobs)))
