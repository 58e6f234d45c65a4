use Rattle.model.specs.History.{view_of}
use Rattle.owner_fold.specs.Left.{jobs_left}
use Rattle.dependencies.specs.Planned.{ArePlannedJobs}
use Rattle.dependencies.proofs.Better.{IsBestSoFar}
use Rattle.dependencies.proofs.candidates.best_of_all.Given as goal

abbrev pub invariant-loop-parent : goal.invariant-loop-parent
invariant-loop-parent l =
    record {
      planned : ArePlannedJobs (view_of l.o) (jobs_left l.parent-iterator);
      best : IsBestSoFar l.net (view_of l.o) l.fn.w l.best (jobs_left l.parent-iterator);
    }
