use Rattle.std.proofs.Common.{◌+◌, ◌≡◌, filter, length}
use Rattle.model.specs.Words.{has}
use Rattle.model.specs.History.{view_of}
use Rattle.model.specs.Catalogue.{StreamJob, is_member, jobs, members}
use Rattle.owner_fold.specs.Left.{jobs_left}
use Rattle.conman_orders.proofs.rooms.are_jobs_too_many.Given as goal

abbrev pub invariant-loop-parent : goal.invariant-loop-parent
invariant-loop-parent l =
    record {
      asked : l.asked.is_member ≡ is_member (view_of l.o) l.asked.stream;
      so_far : l.left
          + length (filter (λ (p : StreamJob). has (members (view_of l.o)) p.parent.no) (jobs (view_of l.o)))
          + length l.draft.jobs
          ≡ 16384
          + length (filter (λ (p : StreamJob). has (members (view_of l.o)) p.parent.no) (jobs_left l.parent-iterator));
    }
