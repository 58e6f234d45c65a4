use Rattle.std.proofs.Common.{◌≡◌, map}
use Rattle.model.specs.Words.{ascending}
use Rattle.model.specs.History.{view_of}
use Rattle.model.specs.Catalogue.{StreamJob, jobs_of_stream}
use Rattle.owner_fold.specs.Left.{stream_jobs_left}
use Rattle.batchman_core.specs.Gathered.{with_all}
use Rattle.batchman_core.proofs.witnesses.job_owners.Given as goal

abbrev pub invariant-loop-parent : goal.invariant-loop-parent
invariant-loop-parent l =
    with_all (map (λ (p : StreamJob). p.doc.ws) (stream_jobs_left l._parent-iterator)) l.found
    ≡ ascending (map (λ (p : StreamJob). p.doc.ws) (jobs_of_stream (view_of l.o) l.fn.s))
