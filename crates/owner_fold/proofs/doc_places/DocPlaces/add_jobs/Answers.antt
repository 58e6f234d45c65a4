use Rattle.std.proofs.Common.{◌++◌, ◌∙◌, ◌≡◌, List, Some, ap, map, slice_get, subst, sym, take}
use Rattle.std.proofs.lemmas.List.{take_all}
use Rattle.lemmas.proofs.Lists.{get_there}
use Rattle.model.specs.Types.{JobDoc}
use Rattle.model.specs.Catalogue.{StreamJob}
use Rattle.owner_fold.specs.DocPlaces.{AreJobPlaces, first_jobs_among, stream_job}
use Rattle.owner_fold.proofs.Standing.{job_of_doc, known_further}
use Rattle.owner_fold.proofs.doc_places.DocPlaces.add_jobs.Goals as goal

pub loop-i-preserved : goal.loop-i-preserved
loop-i-preserved c =
    let item : slice_get c.as_slice-job-items.result.now c.loop-i.i ≡ Some c.job-item.result =
    get_there c.as_slice-job-items.result.now c.loop-i.i c.job-item.result c.loop-i-test.true c.job-item.is
    in
    record {
      streams = c.in_ok-add_job.ensures.streams ∙ c.loop-i.invariant.streams;
      known = c.in_ok-add_job.ensures.known;
      jobs =
          λ kept known found placed.
          subst (λ (l : List StreamJob). AreJobPlaces kept c.add_job.new.self.jobs (first_jobs_among l))
          (sym (known_further (stream_job c.args.doc.now) known c.as_slice-job-items.result.now c.loop-i.i
          c.job-item.result item))
          (c.in_ok-add_job.ensures.jobs kept
          (known ++ map (stream_job c.args.doc.now) (take c.loop-i.i c.as_slice-job-items.result.now))
          (stream_job c.args.doc.now c.job-item.result)
          (job_of_doc kept c.args.doc_place c.args.doc.now c.loop-i.i c.job-item.result.no c.job-item.result found
          (ap (λ (l : List JobDoc). slice_get l c.loop-i.i) (sym c.as_slice-job-items.ensures) ∙ item))
          (ap (λ (j : JobDoc). j.no) c.job.view_is) (c.loop-i.invariant.jobs kept known found placed));
    }

pub returns-clause-jobs : goal.returns-clause-jobs
returns-clause-jobs c =
    λ kept known found placed.
    subst
    (λ (l : List JobDoc).
    AreJobPlaces kept c.loop-i.self.jobs (first_jobs_among (known ++ map (stream_job c.args.doc.now) l)))
    (take_all c.loop-i.i c.as_slice-job-items.result.now c.loop-i-test.false ∙ c.as_slice-job-items.ensures)
    (c.loop-i.invariant.jobs kept known found placed)
