use Rattle.std.specs.Prelude.{map}
use Rattle.model.specs.Catalogue.{StreamJob, jobs_of_stream}
use Rattle.owner_fold.specs.Left.{stream_jobs_left}
use Rattle.counted_decisions.specs.Sights.{seen_in}
use Rattle.counted_decisions.proofs.Naming.{AreLeft}
use Rattle.counted_decisions.proofs.witnesses.add_job_owners.Given as goal

abbrev pub invariant-loop-parent : goal.invariant-loop-parent
invariant-loop-parent l =
    AreLeft (map (λ (p : StreamJob). p.doc.ws) (jobs_of_stream (seen_in l.sight) l.fn.s))
    (map (λ (p : StreamJob). p.doc.ws) (stream_jobs_left l._parent-iterator)) l.initial.named l.named
