use Rattle.std.proofs.Common.{◌≡◌, drop, find, option_map}
use Rattle.model.specs.Types.{JobDoc}
use Rattle.model.specs.Equalities.{text_eq}
use Rattle.event_audit.proofs.draft_names.planned_job.Given as goal

abbrev pub invariant-loop-job : goal.invariant-loop-job
invariant-loop-job l =
    option_map (λ (j : JobDoc). j.no) (find (λ (j : JobDoc). text_eq j.name l.name) l.jobs)
    ≡ option_map (λ (j : JobDoc). j.no) (find (λ (j : JobDoc). text_eq j.name l.name) (drop l.job-index l.jobs))
