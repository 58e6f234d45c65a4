use Rattle.std.proofs.Common.{◌≡◌, ◌++◌, drop, flat_map}
use Rattle.model.specs.History.{view_of}
use Rattle.symphony_view.specs.Listings.{numbered_job_line}
use Rattle.symphony_view.proofs.listings.write_jobs.Given as goal

abbrev pub invariant-loop-job : goal.invariant-loop-job
invariant-loop-job l =
    l.initial.out.items ++ flat_map (numbered_job_line l.net (view_of l.o)) l.doc.jobs
    ≡ l.out.items ++ flat_map (numbered_job_line l.net (view_of l.o)) (drop l.job-index l.doc.jobs)
