use Rattle.std.proofs.Common.{◌≡◌, drop}
use Rattle.std.specs.List.{list_any}
use Rattle.model.specs.Types.{JobDraft}
use Rattle.model.specs.Versions.{is_draft_deadline}
use Rattle.entry_codec.proofs.versions.any_job_draft_has_one.Given as goal

abbrev pub invariant-loop-job : goal.invariant-loop-job
invariant-loop-job l =
    list_any (λ (j : JobDraft). list_any is_draft_deadline j.deps) l.jobs
    ≡ list_any (λ (j : JobDraft). list_any is_draft_deadline j.deps) (drop l.job-index l.jobs)
