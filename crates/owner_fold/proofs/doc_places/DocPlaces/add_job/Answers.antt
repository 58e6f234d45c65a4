use Rattle.std.proofs.Common.{[], ◌++◌, ◌∙◌, ◌∷◌, List, ap, map, subst, sym, ℕ}
use Rattle.std.proofs.lemmas.List.{length-map, map-append}
use Rattle.model.specs.Words.{has}
use Rattle.model.specs.Catalogue.{StreamJob}
use Rattle.owner_fold.specs.Numbers.{ArePlaces}
use Rattle.owner_fold.specs.DocPlaces.{AreJobPlaces, first_jobs_among, job_at}
use Rattle.owner_fold.specs.declared.doc_places.JobPlace.{JobPlace}
use Rattle.owner_fold.proofs.Standing.{stand_known, stand_new}
use Rattle.owner_fold.proofs.doc_places.DocPlaces.add_job.Goals as goal

pub returns-then-not-has-clause-known : goal.returns-then-not-has-clause-known
returns-then-not-has-clause-known c =
    subst (λ (l : List JobPlace). ArePlaces (map (λ (p : JobPlace). p.number) l) c.add.new.self)
    (sym c.in_ok-push.ensures.ok)
    (subst (λ (l : List ℕ). ArePlaces l c.add.new.self)
    (sym (map-append (λ (p : JobPlace). p.number) c.args.self.now.jobs (c.args.doc_place ∷ [])))
    (c.in_ok-add.ensures (map (λ (p : JobPlace). p.number) c.args.self.now.jobs)
    (length-map c.args.self.now.jobs (λ (p : JobPlace). p.number) ∙ sym c.len.ensures) c.requires))

pub returns-then-not-has-clause-jobs : goal.returns-then-not-has-clause-jobs
returns-then-not-has-clause-jobs c =
    λ kept known x found same placed.
    subst (λ (l : List JobPlace). AreJobPlaces kept l (first_jobs_among (known ++ x ∷ []))) (sym c.in_ok-push.ensures.ok)
    (stand_new (job_at kept) (λ (p : JobPlace). p.number) (λ (p : StreamJob). p.doc.no) c.args.self.now.jobs known
    c.args.doc_place x placed
    (ap (λ n. has (map (λ (p : JobPlace). p.number) c.args.self.now.jobs) n) (sym same)
    ∙ sym (c.has.ensures (map (λ (p : JobPlace). p.number) c.args.self.now.jobs) c.requires) ∙ c.if-not-has.true)
    found same)

pub returns-clause-jobs : goal.returns-clause-jobs
returns-clause-jobs c =
    λ kept known x found same placed.
    stand_known (job_at kept) (λ (p : JobPlace). p.number) (λ (p : StreamJob). p.doc.no) c.args.self.now.jobs known x
    placed
    (ap (λ n. has (map (λ (p : JobPlace). p.number) c.args.self.now.jobs) n) (sym same)
    ∙ sym (c.has.ensures (map (λ (p : JobPlace). p.number) c.args.self.now.jobs) c.requires) ∙ c.if-not-has.false)
