use Rattle.std.proofs.Common.{◌≡◌}
use Rattle.std.specs.List.{list_any}
use Rattle.std.specs.Prelude.{count_by, nat_lt}
use Rattle.model.specs.Types.{Events}
use Rattle.model.specs.Catalogue.{StreamJob, jobs_of}
use Rattle.model.specs.Readiness.{open_launch_count}
use Rattle.owner_fold.specs.Holders.{open_left}
use Rattle.counted_facts.specs.Subjects.{brings}
use Rattle.counted_decisions.specs.Sights.{seen_in}
use Rattle.counted_decisions.proofs.limits.has_room.Given as goal

abbrev pub invariant-loop-parent : goal.invariant-loop-parent
invariant-loop-parent l =
    nat_lt (open_launch_count (seen_in l.sight) l.fn.w (jobs_of (seen_in l.sight) l.fn.w)) l.fn.limit
    ≡ nat_lt
    (count_by (λ (p : StreamJob). list_any (brings p.parent.no) (seen_in l.sight (Events 0))) (open_left l.parent-iterator))
    l.room
