use Rattle.std.proofs.Common.{◌≡◌, cond}
use Rattle.std.specs.List.{list_any}
use Rattle.std.specs.Prelude.{sum_by}
use Rattle.model.specs.Types.{Events, Job}
use Rattle.model.specs.History.{view_of}
use Rattle.model.specs.Catalogue.{StreamJob}
use Rattle.model.specs.Dependencies.{units}
use Rattle.owner_fold.specs.Holders.{open_left}
use Rattle.counted_facts.specs.Subjects.{brings}
use Rattle.counted_decisions.specs.Sights.{seen_in}
use Rattle.counted_decisions.specs.Units.{holding_jobs, left_of}
use Rattle.counted_decisions.proofs.supplies.left_by_jobs.Given as goal

abbrev pub invariant-loop-parent : goal.invariant-loop-parent
invariant-loop-parent l =
    left_of l.fn.free
    (sum_by (λ (p : StreamJob). units (seen_in l.sight) l.fn.r (Job p.doc.no)) (holding_jobs (seen_in l.sight) l.fn.w))
    ≡ left_of l.left
    (sum_by
    (λ (p : StreamJob).
    cond (list_any (brings p.parent.no) (seen_in l.sight (Events 0)))
    (units (view_of l.sight.owners.now) l.fn.r (Job p.doc.no)) 0)
    (open_left l.parent-iterator))
