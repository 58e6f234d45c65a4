use Rattle.std.proofs.Common.{◌≡◌, Some}
use Rattle.std.specs.Prelude.{◌==◌, IfSome, filter, is_some}
use Rattle.model.specs.Types.{Job}
use Rattle.model.specs.Words.{least}
use Rattle.model.specs.History.{view_of}
use Rattle.model.specs.Catalogue.{StreamJob, is_member, owner}
use Rattle.model.specs.OwnMembers.{own_job_numbers}
use Rattle.owner_fold.specs.Times.{timed_jobs_left}
use Rattle.dependencies.specs.Dues.{due_at}
use Rattle.dependencies.specs.Planned.{ArePlannedJobs}
use Rattle.dependencies.proofs.Lowest.{lower_of, numbers_of}
use Rattle.dependencies.proofs.dues.lowest_job.Given as goal

abbrev pub invariant-loop-parent : goal.invariant-loop-parent
invariant-loop-parent l =
    record {
      planned : ArePlannedJobs (view_of l.o) (timed_jobs_left l.parent-iterator);
      owned : IfSome l.lowest (λ n. owner (view_of l.o) (Job n) ≡ Some l.fn.w);
      lowest : least
          (filter (λ n. is_some (due_at l.due (view_of l.o) l.fn.w (Job n))) (own_job_numbers (view_of l.o) l.fn.w))
          ≡ lower_of l.lowest
          (least (numbers_of (λ (p : StreamJob). p.doc.ws == l.fn.w)
          (λ (p : StreamJob). is_member (view_of l.o) p.parent.no)
          (λ n. is_some (due_at l.due (view_of l.o) l.fn.w (Job n))) (λ (p : StreamJob). p.doc.no)
          (timed_jobs_left l.parent-iterator)));
    }
