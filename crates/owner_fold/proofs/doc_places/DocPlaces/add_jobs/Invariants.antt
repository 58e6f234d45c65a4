use Rattle.std.proofs.Common.{◌≡◌, ◌++◌, List, Some, map, take}
use Rattle.model.specs.Types.{Entry}
use Rattle.model.specs.Catalogue.{StreamJob}
use Rattle.owner_fold.specs.Numbers.{ArePlaces}
use Rattle.owner_fold.specs.declared.doc_places.JobPlace.{JobPlace}
use Rattle.owner_fold.specs.DocPlaces.{AreJobPlaces, doc_at, first_jobs_among, stream_job}
use Rattle.owner_fold.proofs.doc_places.DocPlaces.add_jobs.Given as goal

abbrev pub invariant-loop-i : goal.invariant-loop-i
invariant-loop-i l =
    record {
      streams : l.self.streams ≡ l.initial.self.streams;
      known : ArePlaces (map (λ (p : JobPlace). p.number) l.self.jobs) l.numbers;
      jobs : (kept : List Entry) (known : List StreamJob) → doc_at kept l.doc_place ≡ Some l.doc
          → AreJobPlaces kept l.initial.self.jobs (first_jobs_among known)
          → AreJobPlaces kept l.self.jobs (first_jobs_among (known ++ map (stream_job l.doc) (take l.i l.job-items)));
    }
