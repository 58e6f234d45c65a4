use Rattle.std.proofs.Common.{◌≡◌, drop}
use Rattle.std.specs.List.{list_any}
use Rattle.std.specs.Prelude.{◌==◌}
use Rattle.model.specs.Types.{JobDoc}
use Rattle.event_audit.proofs.meanings.is_among.Given as goal

abbrev pub invariant-loop-job : goal.invariant-loop-job
invariant-loop-job l =
    list_any (λ (k : JobDoc). k.no == l.fn.j) l.jobs
    ≡ list_any (λ (k : JobDoc). k.no == l.fn.j) (drop l.job-index l.jobs)
