use Rattle.std.proofs.Common.{◌≡◌}
use Rattle.std.specs.Prelude.{flat_map, map}
use Rattle.model.specs.Types.{Job}
use Rattle.model.specs.History.{view_of}
use Rattle.model.specs.Catalogue.{StreamJob}
use Rattle.model.specs.OwnMembers.{own_jobs}
use Rattle.owner_fold.specs.Files.{filed_jobs_left}
use Rattle.file_watch.specs.Circle.{sooner_of, soonest}
use Rattle.file_watch.specs.Probes.{due_at}
use Rattle.file_watch.proofs.probes.soonest_of_jobs.Given as goal

abbrev pub invariant-loop-parent : goal.invariant-loop-parent
invariant-loop-parent l =
    soonest l.last
    (flat_map (due_at (view_of l.o) l.fn.w) (map (λ (p : StreamJob). Job p.doc.no) (own_jobs (view_of l.o) l.fn.w)))
    ≡ sooner_of l.last l.so_far
    (soonest l.last (flat_map (λ (p : StreamJob). due_at (view_of l.o) l.fn.w (Job p.doc.no)) (filed_jobs_left l._parent-iterator)))
