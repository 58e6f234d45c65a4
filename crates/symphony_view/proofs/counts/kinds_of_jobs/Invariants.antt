use Rattle.std.proofs.Common.{◌≡◌, ◌||◌, map}
use Rattle.std.specs.List.{list_any}
use Rattle.model.specs.History.{view_of}
use Rattle.model.specs.Catalogue.{jobs_of_stream}
use Rattle.model.specs.States.{is_bad_state, is_hold_state, is_running_state, job_state}
use Rattle.owner_fold.specs.Left.{stream_jobs_left}
use Rattle.dependencies.specs.Planned.{ArePlannedJobs}
use Rattle.symphony_view.proofs.counts.kinds_of_jobs.Given as goal

abbrev pub invariant-loop-parent : goal.invariant-loop-parent
invariant-loop-parent l =
    let V = view_of l.o in
    let left = map (job_state l.net V) (stream_jobs_left l.parent-iterator) in
    let all = map (job_state l.net V) (jobs_of_stream V l.fn.s) in
    record {
      planned : ArePlannedJobs V (stream_jobs_left l.parent-iterator);
      running : list_any is_running_state all ≡ (l.kinds.running || list_any is_running_state left);
      bad : list_any is_bad_state all ≡ (l.kinds.bad || list_any is_bad_state left);
      held : list_any is_hold_state all ≡ (l.kinds.held || list_any is_hold_state left);
    }
