use Rattle.std.proofs.Common.{◌≡◌, map}
use Rattle.std.specs.Prelude.{◌==◌}
use Rattle.model.specs.Types.{Job}
use Rattle.model.specs.History.{view_of}
use Rattle.model.specs.Catalogue.{StreamJob, is_member}
use Rattle.model.specs.OwnMembers.{own_jobs}
use Rattle.owner_fold.specs.Times.{timed_jobs_left}
use Rattle.batchman_core.specs.Reached.{is_any_reached_of}
use Rattle.batchman_core.proofs.Times.{objects_of}
use Rattle.batchman_core.proofs.clocks.is_time_of_jobs_reached.Given as goal

abbrev pub invariant-loop-parent : goal.invariant-loop-parent
invariant-loop-parent l =
    let V = view_of l.o in
    is_any_reached_of V l.fn.now l.fn.t (map (λ (p : StreamJob). Job p.doc.no) (own_jobs V l.fn.w))
    ≡ is_any_reached_of V l.fn.now l.fn.t
    (objects_of (λ (p : StreamJob). p.doc.ws == l.fn.w) (λ (p : StreamJob). is_member V p.parent.no)
    (λ (p : StreamJob). Job p.doc.no) (timed_jobs_left l.parent-iterator))
