use Rattle.std.proofs.Common.{[], ◌++◌, ◌∷◌, flat_map, take}
use Rattle.model.specs.History.{view_of}
use Rattle.model.specs.Catalogue.{jobs}
use Rattle.model.specs.Dependencies.{dep_cites}
use Rattle.owner_fold.specs.Pairs.{Grows, job_pairs}
use Rattle.owner_fold.proofs.pairs.put_jobs.Given as goal

abbrev pub invariant-loop-doc_place : goal.invariant-loop-doc_place
invariant-loop-doc_place l =
    Grows
    (flat_map (job_pairs (dep_cites (view_of (l.kept ++ l.e ∷ []))) l.kept)
    (take l.doc_place-index (jobs (view_of (l.kept ++ l.e ∷ [])))))
    l.initial.pairs l.pairs
