use Rattle.std.proofs.Common.{◌≡◌, drop}
use Rattle.std.specs.Prelude.{flat_map}
use Rattle.model.specs.Workstations.{ws_in_job_draft}
use Rattle.entry_checks.specs.Inside.{are_inside}
use Rattle.entry_checks.proofs.drafts.are_jobs_inside.Given as goal

abbrev pub invariant-loop-item : goal.invariant-loop-item
invariant-loop-item l =
    are_inside l.count (flat_map ws_in_job_draft l.jobs) ≡ are_inside l.count (flat_map ws_in_job_draft (drop l.item-index l.item-items))
