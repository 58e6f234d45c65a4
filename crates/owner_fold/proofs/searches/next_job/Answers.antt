use Rattle.std.proofs.Common.{◌∙◌, refl, sym}
use Rattle.owner_fold.specs.Searches.{job_passes}
use Rattle.owner_fold.specs.Sets.{job_coded}
use Rattle.owner_fold.specs.DocPlaces.{stream_job}
use Rattle.owner_fold.proofs.Passing.{none_passes, passes_next}
use Rattle.owner_fold.proofs.searches.next_job.Goals as goal

pub returns-then-job_passes : goal.returns-then-job_passes
returns-then-job_passes c =
    c.loop-i.invariant
    ∙ passes_next (job_coded c.args.owners.now c.args.w) (job_passes c.args.test c.args.owners.now c.args.w)
    c.args.codes.now c.loop-i.i (stream_job c.in-Some.parent.now c.in-Some.doc.now) c.loop-i-test.true (sym c.in-Some.ensures)
    (sym c.job_passes.ensures ∙ c.if-job_passes.true)

pub returns : goal.returns
returns c = (
  c.loop-i.invariant
      ∙ none_passes (job_coded c.args.owners.now c.args.w) (job_passes c.args.test c.args.owners.now c.args.w)
      c.args.codes.now c.loop-i.i c.loop-i-test.false,
  refl,
)
