use Rattle.std.proofs.Common.{◌≡◌, drop}
use Rattle.std.specs.List.{list_any}
use Rattle.model.specs.Types.{Job, JobDoc}
use Rattle.model.specs.History.{view_of}
use Rattle.model.specs.States.{is_shown_late}
use Rattle.symphony_view.proofs.lateness.has_late_job.Given as goal

abbrev pub invariant-loop-job : goal.invariant-loop-job
invariant-loop-job l =
    list_any (λ (j : JobDoc). is_shown_late (view_of l.o) (Job j.no)) l.jobs
    ≡ list_any (λ (j : JobDoc). is_shown_late (view_of l.o) (Job j.no)) (drop l.job-index l.jobs)
