use Rattle.std.proofs.Common.{◌≡◌, drop, map}
use Rattle.model.specs.Words.{greatest}
use Rattle.owner_fold.specs.Larger.{larger}
use Rattle.owner_fold.specs.declared.doc_places.JobPlace.{JobPlace}
use Rattle.owner_fold.proofs.doc_places.DocPlaces.last_job.Given as goal

abbrev pub invariant-loop-doc_place : goal.invariant-loop-doc_place
invariant-loop-doc_place l =
    greatest (map (λ (p : JobPlace). p.number) l.self.jobs)
    ≡ larger l.last (greatest (map (λ (p : JobPlace). p.number) (drop l.doc_place-index l.doc_place-items)))
