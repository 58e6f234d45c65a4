use Rattle.std.proofs.Common.{[], ℕ, ◌++◌, ◌∷◌, List}
use Rattle.model.specs.Catalogue.{StreamJob}
use Rattle.owner_fold.specs.Searches.{job_counts}
use Rattle.owner_fold.specs.Numbers.{ArePlaces}
use Rattle.owner_fold.specs.Sets.{CoversBelow, job_station_of}
use Rattle.owner_fold.specs.DocPlaces.{AreJobPlaces}
use Rattle.owner_fold.proofs.fills.jobs_of.Given as goal

abbrev pub invariant-loop-i : goal.invariant-loop-i
invariant-loop-i l =
    (ms : List ℕ) (placed : List StreamJob) → ArePlaces ms l.members
    → AreJobPlaces (l.kept ++ l.e ∷ []) l.doc_places.jobs placed → CoversBelow l.i job_station_of (job_counts l.test ms l.kept) placed l.groups
