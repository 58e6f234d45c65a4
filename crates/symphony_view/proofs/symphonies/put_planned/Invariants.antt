use Rattle.std.proofs.Common.{◌≡◌, ◌++◌, drop, flat_map}
use Rattle.model.specs.History.{view_of}
use Rattle.symphony_view.specs.Symphonies.{numbered_job_bytes}
use Rattle.symphony_view.proofs.symphonies.put_planned.Given as goal

abbrev pub invariant-loop-job : goal.invariant-loop-job
invariant-loop-job l =
    l.initial.out ++ flat_map (numbered_job_bytes l.second l.net (view_of l.o)) l.doc.jobs
    ≡ l.out ++ flat_map (numbered_job_bytes l.second l.net (view_of l.o)) (drop l.job-index l.doc.jobs)
