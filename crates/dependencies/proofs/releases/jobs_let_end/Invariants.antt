use Rattle.std.proofs.Common.{◌≡◌}
use Rattle.std.specs.List.{list_all}
use Rattle.model.specs.History.{view_of}
use Rattle.model.specs.Catalogue.{jobs_of_stream}
use Rattle.model.specs.OwnMembers.{lets_stream_end}
use Rattle.owner_fold.specs.Left.{stream_jobs_left}
use Rattle.dependencies.specs.Planned.{ArePlannedJobs}
use Rattle.dependencies.proofs.releases.jobs_let_end.Given as goal

abbrev pub invariant-loop-parent : goal.invariant-loop-parent
invariant-loop-parent l =
    record {
      planned : ArePlannedJobs (view_of l.o) (stream_jobs_left l.parent-iterator);
      all : list_all (lets_stream_end (view_of l.o)) (jobs_of_stream (view_of l.o) l.fn.s)
          ≡ list_all (lets_stream_end (view_of l.o)) (stream_jobs_left l.parent-iterator);
    }
