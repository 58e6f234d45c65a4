use Rattle.std.proofs.Common.{◌≡◌, drop, filter_map}
use Rattle.owner_fold.specs.DocPlaces.{job_at}
use Rattle.owner_fold.proofs.catalogue.PlannedJobsIterator.next.Given as goal

abbrev pub invariant-loop-i : goal.invariant-loop-i
invariant-loop-i l =
    (l.self ≡ l.initial.self) × (filter_map (job_at l.self.entries.now) l.doc_places
    ≡ filter_map (job_at l.self.entries.now) (drop l.i l.doc_places))
