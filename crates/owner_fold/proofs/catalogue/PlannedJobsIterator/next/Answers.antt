use Rattle.std.proofs.Common.{[], ◌+◌, ◌-◌, ◌∙◌, ◌∷◌, ◌≡◌, drop, filter_map, length, refl, subst, sym, take}
use Rattle.owner_fold.specs.DocPlaces.{job_at, stream_job}
use Rattle.owner_fold.specs.Left.{jobs_left}
use Rattle.owner_fold.specs.declared.catalogue.PlannedJobs.{PlannedJobs}
use Rattle.owner_fold.specs.declared.doc_places.JobPlace.{JobPlace}
use Rattle.owner_fold.proofs.Passing.{next_found, none_found}
use Rattle.owner_fold.proofs.catalogue.PlannedJobsIterator.next.Goals as goal

pub returns-in-Some-clause-steps : goal.returns-in-Some-clause-steps
unfolding jobs_left
returns-in-Some-clause-steps c =
    let none : JobPlace = record { number = 0; stream = record { number = 0; entry = 0; doc = 0 }; job = 0 } in
    subst
    (λ (s : PlannedJobs). filter_map (job_at s.entries.now) c.args.self.now.doc_places.now
    ≡ (stream_job c.in-Some.placed.0.now c.in-Some.placed.1.now) ∷ filter_map (job_at c.loop-i.self.entries.now)
    (take (length c.args.self.now.doc_places.now - (c.loop-i.i + 1)) (drop (c.loop-i.i + 1) c.args.self.now.doc_places.now)))
    c.loop-i.invariant.0
    (c.loop-i.invariant.1
    ∙ next_found (job_at c.loop-i.self.entries.now) c.args.self.now.doc_places.now c.loop-i.i none (stream_job c.in-Some.placed.0.now c.in-Some.placed.1.now)
    c.loop-i-test.true (sym c.in-Some.ensures))

pub returns-clause-steps : goal.returns-clause-steps
unfolding jobs_left
returns-clause-steps c = (
  subst (λ (s : PlannedJobs). filter_map (job_at s.entries.now) c.args.self.now.doc_places.now ≡ []) c.loop-i.invariant.0
      (c.loop-i.invariant.1
      ∙ none_found (job_at c.loop-i.self.entries.now) c.args.self.now.doc_places.now c.loop-i.i c.loop-i-test.false),
  refl,
)
