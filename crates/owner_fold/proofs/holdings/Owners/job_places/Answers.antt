use Rattle.std.proofs.Common.{flat_map}
use Rattle.model.specs.Types.{Events}
use Rattle.model.specs.History.{list_of}
use Rattle.model.specs.Catalogue.{catalogue, docs_in, jobs, jobs_in}
use Rattle.owner_fold.specs.DocPlaces.{first_docs_among, first_jobs_among, job_at}
use Rattle.owner_fold.proofs.Standing.{found_in_order}
use Rattle.owner_fold.proofs.holdings.Owners.job_places.Goals as goal

pub returns : goal.returns
unfolding catalogue jobs
returns c =
    rw (c.as_slice.ensures, ← c.self.view_is)
    (found_in_order (job_at c.self.inside.kept) c.self.inside.plan.doc_places.jobs
    (first_jobs_among (flat_map jobs_in
    (first_docs_among (flat_map docs_in (list_of c.self.inside.kept (Events 0))))))
    c.self.invariant.plan.doc_places.jobs.0)
