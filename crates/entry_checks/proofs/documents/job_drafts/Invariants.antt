use Rattle.std.proofs.Common.{◌≡◌, ◌+◌, drop}
use Rattle.std.specs.Prelude.{sum_by}
use Rattle.model.specs.Sizes.{job_draft_size}
use Rattle.entry_checks.proofs.documents.job_drafts.Given as goal

abbrev pub invariant-loop-item : goal.invariant-loop-item
invariant-loop-item l =
    l.rest + 4 + sum_by job_draft_size l.jobs ≡ l.left + sum_by job_draft_size (drop l.item-index l.item-items)
