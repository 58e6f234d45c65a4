use Rattle.std.proofs.Common.{[], ◌++◌, ◌∷◌, List, true}
use Rattle.model.specs.Catalogue.{StreamJob}
use Rattle.owner_fold.specs.Sets.{CoversBelow, job_stream_of}
use Rattle.owner_fold.specs.DocPlaces.{AreJobPlaces}
use Rattle.owner_fold.proofs.fills.by_stream_of.Given as goal

abbrev pub invariant-loop-i : goal.invariant-loop-i
invariant-loop-i l =
    (placed : List StreamJob) → AreJobPlaces (l.kept ++ l.e ∷ []) l.doc_places.jobs placed
    → CoversBelow l.i job_stream_of (λ p. true) placed l.groups
