use Rattle.model.specs.History.{view_of}
use Rattle.owner_fold.specs.Left.{jobs_left}
use Rattle.dependencies.specs.Planned.{ArePlannedJobs}
use Rattle.ready_index.specs.Standing.{IsJobIndexBut}
use Rattle.ready_index.proofs.Standings.{numbers_of}
use Rattle.ready_index.proofs.jobs.JobIndex.fill.Given as goal

abbrev pub invariant-loop-parent : goal.invariant-loop-parent
invariant-loop-parent l = record {
  planned : ArePlannedJobs (view_of l.o) (jobs_left l.parent-iterator);
  known : IsJobIndexBut (view_of l.o) l.fn.w (numbers_of l.fn.w (jobs_left l.parent-iterator)) l.self;
}
