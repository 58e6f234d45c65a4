use Rattle.std.proofs.Common.{◌≡◌, ◌++◌, drop, flat_map}
use Rattle.plan_listing.specs.Streams.{job_text}
use Rattle.plan_listing.proofs.streams.put_jobs.Given as goal

abbrev pub invariant-loop-job : goal.invariant-loop-job
invariant-loop-job l =
    l.initial.out.items ++ flat_map (job_text l.net) l.jobs
    ≡ l.out.items ++ flat_map (job_text l.net) (drop l.job-index l.jobs)
