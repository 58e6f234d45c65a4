use Rattle.std.proofs.Common.{◌≡◌, length}
use Rattle.std.specs.Prelude.{nat_lt}
use Rattle.model.specs.History.{view_of}
use Rattle.model.specs.Catalogue.{jobs_of}
use Rattle.model.specs.Readiness.{open_launch_count}
use Rattle.owner_fold.specs.Holders.{open_left}
use Rattle.dependencies.proofs.limits.has_room.Given as goal

abbrev pub invariant-loop : goal.invariant-loop
invariant-loop l =
    nat_lt (open_launch_count (view_of l.o) l.fn.w (jobs_of (view_of l.o) l.fn.w)) l.fn.limit
    ≡ nat_lt (length (open_left l.iterator')) l.room
