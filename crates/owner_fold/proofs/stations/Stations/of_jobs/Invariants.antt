use Rattle.std.proofs.Common.{[], ◌++◌, ◌∷◌, ◌≡◌, map, take}
use Rattle.owner_fold.specs.declared.doc_places.JobPlace.{JobPlace}
use Rattle.owner_fold.specs.DocPlaces.{job_at}
use Rattle.owner_fold.specs.Stations.{job_owner}
use Rattle.owner_fold.proofs.stations.Stations.of_jobs.Given as goal

abbrev pub invariant-loop-doc_place : goal.invariant-loop-doc_place
invariant-loop-doc_place l =
    l.owners
    ≡ map (λ (p : JobPlace). job_owner (job_at (l.entries ++ l.e ∷ []) p))
    (take l.doc_place-index l.doc_places.jobs)
