use Rattle.std.proofs.Common.{◌≡◌}
use Rattle.std.specs.Prelude.{◌==◌}
use Rattle.model.specs.Words.{least}
use Rattle.model.specs.History.{view_of}
use Rattle.model.specs.Catalogue.{StreamJob}
use Rattle.model.specs.Turn.{lost_jobs}
use Rattle.owner_fold.specs.Holders.{open_left}
use Rattle.dependencies.specs.Planned.{ArePlannedJobs}
use Rattle.dependencies.proofs.Lowest.{lower_of, numbers_of}
use Rattle.batchman_core.proofs.Lost.{any, is_lost}
use Rattle.batchman_core.proofs.losses.lowest_lost.Given as goal

abbrev pub invariant-loop-parent : goal.invariant-loop-parent
invariant-loop-parent l =
    record {
      planned : ArePlannedJobs (view_of l.o) (open_left l.parent-iterator);
      lowest : least (lost_jobs (view_of l.o) l.fn.me l.live)
          ≡ lower_of l.lowest
          (least (numbers_of (λ (p : StreamJob). p.doc.ws == l.fn.me) any (is_lost (view_of l.o) l.fn.me l.live)
          (λ (p : StreamJob). p.doc.no) (open_left l.parent-iterator)));
    }
