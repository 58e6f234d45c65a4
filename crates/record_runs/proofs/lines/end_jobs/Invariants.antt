use Rattle.std.proofs.Common.{drop, map}
use Rattle.record_runs.proofs.Tables.{ends}
use Rattle.record_runs.proofs.Ways.{IsOnTheWay}
use Rattle.record_runs.proofs.lines.end_jobs.Given as goal

abbrev pub invariant-loop-job : goal.invariant-loop-job
invariant-loop-job l =
    IsOnTheWay l.fn.world (λ x. map (ends l.fn.w l.fn.code) l.fn.jobs) l.world
    (map (ends l.fn.w l.fn.code) (drop l.job-index l.fn.jobs))
