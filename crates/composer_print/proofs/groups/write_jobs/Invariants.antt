use Rattle.std.proofs.Common.{◌≡◌, ◌++◌, drop, flat_map, map}
use Rattle.composer_print.specs.Groups.{job_line}
use Rattle.composer_print.specs.Normal.{bare}
use Rattle.composer_print.proofs.groups.write_jobs.Given as goal

abbrev pub invariant-loop-job : goal.invariant-loop-job
invariant-loop-job l =
    l.initial.out.items ++ flat_map (λ x. job_line x.item) (map bare l.jobs)
    ≡ l.out.items ++ flat_map (λ x. job_line x.item) (map bare (drop l.job-index l.jobs))
