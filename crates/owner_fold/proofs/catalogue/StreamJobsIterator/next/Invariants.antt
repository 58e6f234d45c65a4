use Rattle.std.proofs.Common.{◌≡◌, ◌==◌, drop, filter, filter_map}
use Rattle.model.specs.Catalogue.{StreamJob}
use Rattle.owner_fold.specs.Sets.{job_coded}
use Rattle.owner_fold.proofs.catalogue.StreamJobsIterator.next.Given as goal

abbrev pub invariant-loop-i : goal.invariant-loop-i
invariant-loop-i l =
    (l.self ≡ l.initial.self)
    × (filter (λ (p : StreamJob). p.parent.no == l.self.stream)
    (filter_map (job_coded l.self.owners.now l.self.stream) l.codes)
    ≡ filter (λ (p : StreamJob). p.parent.no == l.self.stream)
    (filter_map (job_coded l.self.owners.now l.self.stream) (drop l.i l.codes)))
