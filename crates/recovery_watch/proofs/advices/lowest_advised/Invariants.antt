use Rattle.std.proofs.Common.{◌≡◌}
use Rattle.std.specs.Prelude.{filter}
use Rattle.model.specs.Words.{least}
use Rattle.model.specs.History.{view_of}
use Rattle.model.specs.OwnMembers.{own_job_numbers}
use Rattle.owner_fold.specs.Left.{jobs_left}
use Rattle.dependencies.specs.Planned.{ArePlannedJobs}
use Rattle.dependencies.proofs.Lowest.{lower_of}
use Rattle.recovery_watch.specs.Advice.{needs_advice}
use Rattle.recovery_watch.proofs.Lowest.{lowest_among}
use Rattle.recovery_watch.proofs.advices.lowest_advised.Given as goal

abbrev pub invariant-loop-parent : goal.invariant-loop-parent
invariant-loop-parent l =
    record {
      planned : ArePlannedJobs (view_of l.o) (jobs_left l.parent-iterator);
      lowest : least (filter (needs_advice (view_of l.o) l.fn.w) (own_job_numbers (view_of l.o) l.fn.w))
          ≡ lower_of l.lowest (least (lowest_among (view_of l.o) l.fn.w (jobs_left l.parent-iterator)));
    }
