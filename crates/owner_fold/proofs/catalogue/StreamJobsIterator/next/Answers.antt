use Rattle.std.proofs.Common.{[], ◌+◌, ◌-◌, ◌==◌, ◌∙◌, ◌∷◌, ◌≡◌, drop, filter, filter_map, length, refl, subst, sym, take}
use Rattle.model.specs.Catalogue.{StreamJob}
use Rattle.owner_fold.specs.DocPlaces.{stream_job}
use Rattle.owner_fold.specs.Left.{stream_jobs_left}
use Rattle.owner_fold.specs.Sets.{job_coded}
use Rattle.owner_fold.specs.declared.catalogue.StreamJobs.{StreamJobs}
use Rattle.owner_fold.proofs.Passing.{none_passes, passes_next}
use Rattle.owner_fold.proofs.catalogue.StreamJobsIterator.next.Goals as goal

pub returns-then-has_number-clause-steps : goal.returns-then-has_number-clause-steps
unfolding stream_jobs_left
returns-then-has_number-clause-steps c =
    subst
    (λ (s : StreamJobs). filter (λ (p : StreamJob). p.parent.no == s.stream)
    (filter_map (job_coded s.owners.now s.stream) c.args.self.now.codes.now)
    ≡ stream_job c.in-Some.parent.now c.in-Some.job.now ∷ filter (λ (p : StreamJob). p.parent.no == c.loop-i.self.stream)
    (filter_map (job_coded c.loop-i.self.owners.now c.loop-i.self.stream)
    (take (length c.args.self.now.codes.now - (c.loop-i.i + 1)) (drop (c.loop-i.i + 1) c.args.self.now.codes.now))))
    c.loop-i.invariant.0
    (c.loop-i.invariant.1
    ∙ passes_next (job_coded c.loop-i.self.owners.now c.loop-i.self.stream) (λ (p : StreamJob). p.parent.no == c.loop-i.self.stream) c.args.self.now.codes.now c.loop-i.i
    (stream_job c.in-Some.parent.now c.in-Some.job.now) c.loop-i-test.true (sym c.in-Some.ensures)
    (sym c.has_number.ensures ∙ c.if-has_number.true))

pub returns-clause-steps : goal.returns-clause-steps
unfolding stream_jobs_left
returns-clause-steps c = (
  subst
      (λ (s : StreamJobs). filter (λ (p : StreamJob). p.parent.no == s.stream)
      (filter_map (job_coded s.owners.now s.stream) c.args.self.now.codes.now) ≡ [])
      c.loop-i.invariant.0
      (c.loop-i.invariant.1
      ∙ none_passes (job_coded c.loop-i.self.owners.now c.loop-i.self.stream) (λ (p : StreamJob). p.parent.no == c.loop-i.self.stream) c.args.self.now.codes.now c.loop-i.i
      c.loop-i-test.false),
  refl,
)
