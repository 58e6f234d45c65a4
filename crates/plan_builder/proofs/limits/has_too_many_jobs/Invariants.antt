use Rattle.std.proofs.Common.{◌≡◌, ◌+◌, ◌≤◌, drop}
use Rattle.plan_builder.specs.Limits.{job_count}
use Rattle.plan_builder.proofs.limits.has_too_many_jobs.Given as goal

abbrev pub invariant-loop-n : goal.invariant-loop-n
invariant-loop-n l =
    record {
      few : l.count ≤ 16384;
      all : l.count + job_count l.defs (drop l.n-index l.streams) ≡ job_count l.defs l.streams;
    }
