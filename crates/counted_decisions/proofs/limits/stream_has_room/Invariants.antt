use Rattle.std.proofs.Common.{◌≡◌}
use Rattle.std.specs.Prelude.{◌==◌, count_by, filter, nat_lt}
use Rattle.model.specs.Catalogue.{StreamJob, jobs_of}
use Rattle.model.specs.Readiness.{open_launch_count}
use Rattle.owner_fold.specs.Holders.{open_left}
use Rattle.counted_decisions.specs.Sights.{seen_in}
use Rattle.counted_decisions.proofs.limits.stream_has_room.Given as goal

abbrev pub invariant-loop-parent : goal.invariant-loop-parent
invariant-loop-parent l =
    nat_lt (open_launch_count (seen_in l.sight) l.fn.w
    (filter (λ (p : StreamJob). p.parent.no == l.fn.s) (jobs_of (seen_in l.sight) l.fn.w))) l.fn.limit
    ≡ nat_lt (count_by (λ (p : StreamJob). p.parent.no == l.fn.s) (open_left l.parent-iterator)) l.room
